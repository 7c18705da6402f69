pub mod ListLemmas
pub mod RuleLemmas
pub mod PassLemmas
pub mod TurnLemmas
mod NumberLemmas

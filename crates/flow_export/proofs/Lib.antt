pub mod EventLemmas
pub mod JournalLemmas
mod LiteralLemmas
pub mod ReadBackLemmas
mod ValueLemmas

pub mod FrontLemmas
pub mod TraceLemmas

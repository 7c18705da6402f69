pub mod WellFormed
pub mod TakingLemmas
pub mod CircleLemmas

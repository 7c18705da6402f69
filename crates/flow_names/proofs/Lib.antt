pub mod SequenceLemmas
pub mod ClaimBounds
pub mod SearchLemmas
pub mod StepLemmas
pub mod TidyLemmas

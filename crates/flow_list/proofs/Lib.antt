pub mod FileLemmas
pub mod ListSteps
pub mod NameLemmas
pub mod OutLemmas
pub mod PlaceLemmas
pub mod RunLemmas

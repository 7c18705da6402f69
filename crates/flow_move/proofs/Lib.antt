pub mod LabelLemmas
pub mod StepLemmas
pub mod MoveLemmas
pub mod RunLemmas
pub mod RenameLemmas

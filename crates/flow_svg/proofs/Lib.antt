pub mod CutLemmas
pub mod LaneLemmas
pub mod LineLemmas

pub mod BlockLemmas
pub mod TallyLemmas
pub mod UnseenLemmas
pub mod SiftingLemmas
pub mod SieveLemmas
pub mod CompilationLemmas
pub mod Workflows

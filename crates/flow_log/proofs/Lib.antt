pub mod BeginLemmas
pub mod CaseLemmas
pub mod FitLemmas
pub mod OnceLemmas
pub mod PointLemmas

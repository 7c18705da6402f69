pub mod SubjectLemmas
pub mod AskedLemmas

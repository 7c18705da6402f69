pub mod InsideLemmas
pub mod NoteLemmas

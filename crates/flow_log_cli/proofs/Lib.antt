pub mod JudgingLemmas
pub mod NotedLemmas
pub mod PassingLemmas
pub mod Places
pub mod StandLemmas

pub mod ChangeLemmas
pub mod ReplayLemmas
pub mod ChangeLogLemmas

pub mod CutLemmas
pub mod HistoryLemmas
pub mod JournalLemmas
pub mod LineLemmas
pub mod NumberLemmas
pub mod PieceLemmas
pub mod SessionLemmas
pub mod WordLemmas

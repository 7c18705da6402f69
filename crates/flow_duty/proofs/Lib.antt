pub mod DeskLemmas
pub mod SessionLemmas
pub mod OnceLemmas
pub mod Users

pub mod Lists
pub mod Judgement
pub mod Conflict

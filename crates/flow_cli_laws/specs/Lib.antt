pub mod Single
pub mod Done

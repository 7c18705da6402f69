pub mod Files
pub mod Filter
pub mod Line
pub mod Out
pub mod Steps
pub mod Tasks
pub mod Words

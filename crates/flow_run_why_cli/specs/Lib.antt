pub mod Told
pub mod Session
pub mod Journal
pub mod Query

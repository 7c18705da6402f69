pub mod Records
pub mod Following
pub mod Given
pub mod Texts
pub mod Step
pub mod Stored
pub mod Json

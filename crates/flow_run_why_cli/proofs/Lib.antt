pub mod Given
pub mod Refusals
pub mod Queries
pub mod Telling

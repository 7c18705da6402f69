pub mod Facts
pub mod Events
pub mod Leaves
pub mod Constraints
pub mod Goals
pub mod Finding

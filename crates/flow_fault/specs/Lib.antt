pub mod Lines
pub mod Spot
pub mod Met
pub mod Near
pub mod Keywords
pub mod Hints
pub mod Fault

pub mod Parts
pub mod Lines
pub mod Reasons
pub mod Leaves
pub mod Refused
pub mod Second
pub mod Bad

pub mod Begun
pub mod Stops

pub mod Subject
pub mod Stops
pub mod Told

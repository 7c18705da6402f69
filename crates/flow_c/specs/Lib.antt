pub mod Handed
pub mod Calls

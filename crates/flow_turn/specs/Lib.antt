pub mod Entries
pub mod Turns
pub mod Steps
pub mod Passes
pub mod Numbers

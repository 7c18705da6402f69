pub mod Labels
pub mod Moves
pub mod Causes
pub mod Found

pub mod Ends
pub mod Moves
pub mod Invariant
pub mod Done
pub mod Single

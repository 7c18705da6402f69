pub mod Escape
pub mod Inside
pub mod Lookup
pub mod Notes
pub mod Pieces

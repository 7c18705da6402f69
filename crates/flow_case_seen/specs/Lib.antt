pub mod All
pub mod Kept
pub mod Seen
pub mod Tellers
pub mod Texts

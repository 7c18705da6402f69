pub mod Line
pub mod Held
pub mod Asked

pub mod State
pub mod Takers
pub mod Words

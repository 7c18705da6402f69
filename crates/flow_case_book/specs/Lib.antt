pub mod Texts
pub mod People
pub mod Due
pub mod Held
pub mod Unopened

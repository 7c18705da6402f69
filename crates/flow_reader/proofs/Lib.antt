pub mod Heights
pub mod Within
pub mod Loops
pub mod Ended

pub mod Words
pub mod Status
pub mod Lines
pub mod Session
pub mod Asked
pub mod Course

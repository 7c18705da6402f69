pub mod Chart
pub mod Lines
pub mod Words
pub mod Title

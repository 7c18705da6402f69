pub mod Lines
pub mod Words
pub mod Number
pub mod Session
pub mod History
pub mod Journal
pub mod Cut

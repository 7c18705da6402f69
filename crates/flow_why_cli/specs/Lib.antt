pub mod Explained
pub mod Members
pub mod Places
pub mod Rules
pub mod Words

pub mod Symbols
pub mod Readers
pub mod Goals
pub mod RuleLevels
pub mod Rules
pub mod Scripts
pub mod Queries
pub mod Reading

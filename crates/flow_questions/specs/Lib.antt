pub mod Questions
pub mod Made

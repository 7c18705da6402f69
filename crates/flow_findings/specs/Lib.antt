pub mod Refusing
pub mod Checking
pub mod Judging
pub mod Auditing

pub mod Options
pub mod Block
pub mod Tally
pub mod Limits
pub mod Executions
pub mod Compilation
pub mod Sieve

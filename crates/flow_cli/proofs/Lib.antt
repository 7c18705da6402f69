pub mod Refusals
pub mod Duties
pub mod Runs
pub mod Queries
pub mod Outcomes

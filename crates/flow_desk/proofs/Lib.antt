pub mod Columns
pub mod Noting
pub mod Shown
pub mod Lines
pub mod Depictions

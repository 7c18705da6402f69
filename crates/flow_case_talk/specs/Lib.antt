pub mod Lines
pub mod Means
pub mod Plans

pub mod Fronts
pub mod Constraints

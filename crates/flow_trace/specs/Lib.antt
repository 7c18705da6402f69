pub mod Fronts
pub mod Traces

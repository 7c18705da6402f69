pub mod ExpandedEvents
pub mod Stops
pub mod Parts
pub mod Stages

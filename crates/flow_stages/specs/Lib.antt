pub mod Fitting
pub mod Trying
pub mod Remains
pub mod Stages
pub mod Asked
pub mod Listed
pub mod Found

pub mod Case
pub mod Fits
pub mod Search

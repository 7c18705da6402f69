pub mod Status
pub mod Stop
pub mod Refusal
pub mod Input
pub mod Prepared
pub mod Stages

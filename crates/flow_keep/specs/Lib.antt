pub mod Records
pub mod Kept
pub mod Opened
pub mod Answered
pub mod Holding
pub mod Told
pub mod Slot

pub mod Faults
pub mod Meetings

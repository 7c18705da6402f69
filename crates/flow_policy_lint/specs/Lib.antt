pub mod Findings
pub mod Heads
pub mod Told

pub mod Cuts
pub mod Findings
pub mod Shares
pub mod Single

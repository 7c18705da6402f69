pub mod Deviating
pub mod Judged
pub mod Shares
pub mod Sums

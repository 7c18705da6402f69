pub mod Ask
pub mod Refusal

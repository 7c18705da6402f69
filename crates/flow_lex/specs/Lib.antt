pub mod Bytes
pub mod Tokens
pub mod Writing
pub mod Refusals

pub mod Desk
pub mod Answer

pub mod Desked
pub mod Answers
pub mod Ask
pub mod Having
pub mod Single
pub mod Invariant

pub mod Verbs
pub mod Grammar
pub mod Meaning
pub mod Leaves
pub mod Sequence
pub mod Steps
pub mod Tidy
pub mod Todo

pub mod Sets
pub mod Begun

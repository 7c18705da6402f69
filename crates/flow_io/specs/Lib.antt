pub mod Source
pub mod Sink

pub mod Claims
pub mod TakerLoops
pub mod FreeLoops

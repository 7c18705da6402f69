pub mod Dutiful
pub mod Growth
pub mod SingleLemmas
pub mod TakerLemmas
pub mod TieLemmas

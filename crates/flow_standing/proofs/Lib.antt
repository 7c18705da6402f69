pub mod Fronts
pub mod Places
pub mod Trails
pub mod Pairwise
pub mod Undoing
pub mod Outs
pub mod PastLemmas
pub mod FlagLemmas

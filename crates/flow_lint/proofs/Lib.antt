pub mod LiveLeaves
pub mod FindingLists
pub mod Named
pub mod MarkLemmas
pub mod Told

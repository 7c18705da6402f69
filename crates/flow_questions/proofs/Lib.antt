pub mod NeverLemmas
pub mod StaffLemmas
pub mod FoundLemmas
pub mod TraceLemmas
pub mod DoneLemmas
pub mod MakeLemmas
pub mod AllLemmas
pub mod TakerLemmas

pub mod Members
pub mod LayLemmas
pub mod LaidGoalLemmas
pub mod SettlementLemmas
pub mod Declarations
pub mod Endings
pub mod ConstraintsLemmas
pub mod LeavesLemmas

pub mod JournalLengths
pub mod ClaimsGiven
pub mod Members
pub mod SideLemmas
pub mod SidesTold
pub mod SideSteps
pub mod InTheWayLemmas
mod IsolatedLemmas
pub mod BadLemmas
mod GivenUpLemmas
mod CompiledLemmas

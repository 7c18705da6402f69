pub mod Clear
pub mod DrawnLemmas
pub mod FlowsLemmas
pub mod InTurn
pub mod Rooms
pub mod ToldLemmas
pub mod Within

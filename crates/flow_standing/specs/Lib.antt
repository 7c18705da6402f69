pub mod Out
pub mod Trail
pub mod Undone
pub mod Following
pub mod Past
pub mod Standing

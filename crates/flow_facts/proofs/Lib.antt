pub mod BitFlags
pub mod Pushed
pub mod JournalLabels
pub mod Members
pub mod Trails

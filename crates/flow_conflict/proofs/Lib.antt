pub mod Members
pub mod Rising
pub mod Conflicts
pub mod LeavingOut

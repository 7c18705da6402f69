pub mod Disk
pub mod Change
pub mod ChangeLog
pub mod MemDisk
pub mod Replay
pub mod FileDisk

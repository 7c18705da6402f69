pub mod Calls
pub mod Served
pub mod Cuts
pub mod Sessions
pub mod Disks
pub mod Courses
pub mod Taken

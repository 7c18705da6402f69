pub mod Reading
pub mod Requests
pub mod OneFault
pub mod Purposes

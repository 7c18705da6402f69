pub mod Page
pub mod Reading
pub mod Sections
pub mod Shown
pub mod Tables

pub mod Activities
pub mod Journals
pub mod Judging
pub mod Maps
pub mod Noted
pub mod Passing
pub mod Source
pub mod Told

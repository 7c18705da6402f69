pub mod Numbered
pub mod Definition
pub mod Numbers
pub mod Rule
pub mod Label
pub mod NamedEvents

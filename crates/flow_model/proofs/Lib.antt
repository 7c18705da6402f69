pub mod Lists
pub mod MadeLists

pub mod DateTime
pub mod Events
pub mod Rows
pub mod ReadBack
pub mod Literal
pub mod Sql
pub mod Value
pub mod Xes

pub mod KeptValues
pub mod Cutting
pub mod Written
pub mod EachToken
pub mod Small
pub mod AsciiLemmas

pub mod Rows
pub mod Turned
pub mod Arranged
pub mod ItemMarks
pub mod Items
pub mod Sample
pub mod LeftLeaves

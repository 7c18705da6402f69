pub mod Unfolding
pub mod FoldedRuns
pub mod FoldedFollowing
pub mod FoldedRows
pub mod SharedFolds
pub mod FoldedAvoiding
pub mod Beginning

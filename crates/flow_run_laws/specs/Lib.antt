pub mod FoldedHistories
pub mod ClaimTakers
pub mod NumberedFolds
pub mod FoldedSteps
pub mod OptionNumbers
pub mod DroppedNumbers

pub mod FoldedHistoriesLemmas
pub mod ClaimTakersLemmas
pub mod OtherSides
pub mod NumberedFoldsLemmas
pub mod FoldedStepsLemmas
pub mod Numbered
pub mod OptionNumbersLemmas
pub mod DroppedNumbersLemmas

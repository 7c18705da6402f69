pub mod BucketLemmas
pub mod EntryLemmas
pub mod FollowLemmas
pub mod GroupLemmas
pub mod ReachedLemmas
pub mod RowLemmas
pub mod SpellingLemmas
pub mod TakenLemmas

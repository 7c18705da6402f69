pub mod RecordLemmas
pub mod FollowLemmas
pub mod GoneLemmas
pub mod GrowthLemmas
pub mod StepLemmas
pub mod StoredLemmas

pub mod ReachLemmas
mod FollowLemmas

pub mod OneReply
pub mod SessionLemmas

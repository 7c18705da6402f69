pub mod AllLines
pub mod KeptLemmas
pub mod TellerLemmas
pub mod TextLemmas

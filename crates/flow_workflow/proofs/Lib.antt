pub mod Places
pub mod NumberedLemmas
pub mod FirstPlaces
pub mod RuleViews
pub mod NamedLemmas

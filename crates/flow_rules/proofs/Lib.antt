mod AskedLemmas
pub mod WayCountLemmas
mod LaneLemmas
pub mod LeafLemmas
mod NarrowLemmas
mod NormalViews
pub mod RuleViews
mod SplitForms
mod StandingLemmas
mod WayListLemmas

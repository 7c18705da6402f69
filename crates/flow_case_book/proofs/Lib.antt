pub mod BookLemmas
pub mod PeopleLemmas
pub mod DueLemmas

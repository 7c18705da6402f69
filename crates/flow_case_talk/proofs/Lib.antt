pub mod MeansLemmas
pub mod PlanLemmas

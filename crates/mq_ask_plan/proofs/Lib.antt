pub mod PlanLemmas
pub mod ObjectLemmas

pub mod ListLemmas
pub mod SumLemmas
pub mod ClassLemmas
pub mod PlanLemmas
pub mod CarryLemmas
pub mod CoordinateLemmas
pub mod ClassCoordinates

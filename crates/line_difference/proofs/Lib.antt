pub mod RowSums
pub mod DifferenceLemmas
pub mod PlanLemmas

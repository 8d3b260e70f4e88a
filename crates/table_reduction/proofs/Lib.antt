pub mod WalkLemmas
pub mod ReductionLemmas

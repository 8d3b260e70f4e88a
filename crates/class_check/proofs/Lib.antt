pub mod LeadLemmas
pub mod WalkLemmas

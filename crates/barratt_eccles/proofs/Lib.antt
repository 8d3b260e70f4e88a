pub mod RefusalLemmas
pub mod FaceLemmas
pub mod EntryLemmas
pub mod PathLemmas
pub mod PathCounts

pub mod WalkLemmas
pub mod RefusalLemmas
pub mod CountLemmas
pub mod SpliceLemmas
pub mod OrderLemmas
pub mod CutLemmas
pub mod SumLemmas

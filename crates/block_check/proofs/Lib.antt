pub mod NameLemmas
mod FacetLemmas
mod SendLemmas
pub mod BlockLemmas

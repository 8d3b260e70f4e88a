mod PlaceLemmas
pub mod SectionLemmas
mod LiveLemmas
pub mod TotalLemmas
pub mod ComplexWalks

pub mod FreeFacets
pub mod MarkLemmas

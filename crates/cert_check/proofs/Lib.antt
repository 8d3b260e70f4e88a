mod PartLemmas
mod FreeLemmas
mod ReadyLemmas

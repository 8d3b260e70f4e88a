pub mod ServedLemmas
pub mod PowerLemmas
pub mod ScaleLemmas
pub mod OrbitLemmas

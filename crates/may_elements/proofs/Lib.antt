pub mod PairLemmas
pub mod ElementLemmas
pub mod LiveLemmas
pub mod StoredLemmas

mod Bounds
mod FacePlaces
mod LevelLemmas
pub mod Alternating
pub mod RowLemmas
mod Pulling

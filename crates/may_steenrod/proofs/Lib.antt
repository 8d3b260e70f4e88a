pub mod OnLemmas
pub mod FaceLemmas
pub mod CutLemmas
pub mod ElementLemmas
pub mod ValueLemmas
pub mod PlaceLemmas
pub mod CupLemmas
mod BackLemmas
mod ChosenLemmas
mod BeginningLemmas
pub mod FrontLemmas
pub mod OperationLemmas
pub mod PowerLemmas
pub mod SquareLemmas

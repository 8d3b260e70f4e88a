pub mod Action
pub mod Refusals
pub mod Walk
pub mod Splicing
pub mod ActionLaws
pub mod CycleLaws
pub mod CompositionLaws
pub mod Names

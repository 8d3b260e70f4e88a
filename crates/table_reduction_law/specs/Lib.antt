pub mod Tuples
pub mod Reduction
pub mod MayElements
pub mod Counts
pub mod Laws
pub mod Names

pub mod Surjections
pub mod Tuples
pub mod Laws

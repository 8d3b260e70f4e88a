pub mod Listed
pub mod Matrices
pub mod Sums
pub mod Coordinates
pub mod Names

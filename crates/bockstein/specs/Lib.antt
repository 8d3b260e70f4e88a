pub mod Places
pub mod Matrices

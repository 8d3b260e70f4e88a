pub mod FormalSums
pub mod Places
pub mod Refusals
pub mod Parity
pub mod Permutations
pub mod Words

pub mod Verdicts
pub mod ByMatrices

pub mod CycleLemmas
pub mod VerdictLemmas
mod ByMatrixLemmas
mod IdentityLemmas

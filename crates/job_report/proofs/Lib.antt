pub mod Zips
pub mod ClassLemmas
pub mod ColumnLemmas
pub mod JobLemmas
pub mod TableLemmas
pub mod PartLemmas
pub mod MapLemmas
pub mod BasisLemmas

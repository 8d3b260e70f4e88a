pub mod LiveParts
pub mod Charges
pub mod Counts
pub mod Names

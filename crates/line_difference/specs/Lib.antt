pub mod Elements
pub mod Differences

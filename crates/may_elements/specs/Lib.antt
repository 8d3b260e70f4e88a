pub mod Counted
pub mod Live
pub mod Pairs
pub mod Stored

pub mod Walks
pub mod Sizes
pub mod Names

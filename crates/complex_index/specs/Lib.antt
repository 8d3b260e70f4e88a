pub mod Incidence
pub mod Levels
pub mod Chains
pub mod Maps
pub mod Names

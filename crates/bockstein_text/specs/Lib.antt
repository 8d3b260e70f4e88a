pub mod Bocksteins
pub mod Steps
pub mod Names

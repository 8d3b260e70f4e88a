pub mod Torus
pub mod Samples

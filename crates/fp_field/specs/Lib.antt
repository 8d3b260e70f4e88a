pub mod Served
pub mod Element
pub mod Orbits

pub mod Neighbours
pub mod Numbers
pub mod Spelled

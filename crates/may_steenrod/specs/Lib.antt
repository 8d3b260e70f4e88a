pub mod Cochains
pub mod FaceSums
pub mod Elements
pub mod Fronts
pub mod Chosen

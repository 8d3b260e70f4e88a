pub mod AddingFaces
pub mod InPieces
mod Ordered
pub mod Sizes

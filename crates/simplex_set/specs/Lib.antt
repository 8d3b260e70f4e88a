pub mod InOrder
pub mod Levels
pub mod Pieces
pub mod Refused

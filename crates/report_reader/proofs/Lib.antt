pub mod Pieces
pub mod Lines
pub mod Steps
pub mod Sections
pub mod Items
pub mod Whole

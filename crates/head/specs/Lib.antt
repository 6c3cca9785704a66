pub mod Code
pub mod Pieces

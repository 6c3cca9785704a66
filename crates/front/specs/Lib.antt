pub mod Between
pub mod Code
pub mod Made
pub mod Pieces

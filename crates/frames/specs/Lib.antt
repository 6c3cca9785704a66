pub mod WriteList
pub mod Writer
pub mod Program
pub mod Refused
pub mod FramePieces
pub mod Container
pub mod Describe

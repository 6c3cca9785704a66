pub mod Pass
pub mod FrameNames
pub mod Code

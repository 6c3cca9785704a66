pub mod Copied
pub mod Encoded

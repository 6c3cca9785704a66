pub mod Source
pub mod Range
pub mod Passes

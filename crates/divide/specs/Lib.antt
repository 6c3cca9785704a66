pub mod Divided
pub mod Passes

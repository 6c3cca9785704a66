pub mod Again
pub mod Passes

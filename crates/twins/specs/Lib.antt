pub mod Lax
pub mod Events
pub mod Least
pub mod Over
pub mod Table
pub mod Some
pub mod Walk
pub mod Own

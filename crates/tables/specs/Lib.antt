pub mod Fit
pub mod Second

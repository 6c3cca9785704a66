pub mod Passes
pub mod Settle

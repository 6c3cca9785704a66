pub mod Made
pub mod Decided

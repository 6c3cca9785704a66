pub mod Made
pub mod Named
pub mod Top

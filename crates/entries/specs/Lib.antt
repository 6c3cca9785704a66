pub mod Entry
pub mod Least
pub mod Among

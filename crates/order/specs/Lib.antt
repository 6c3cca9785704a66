pub mod Arranged
pub mod Sorted
pub mod Passes

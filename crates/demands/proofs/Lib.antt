pub mod Demands
pub mod Lent
pub mod PinnedCalls

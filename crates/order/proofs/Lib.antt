pub mod SortedLaws
pub mod NeighbourLaws
pub mod KeptLaws
mod MergeReturns
mod JoinReturns
mod SortReturns
mod TwinReturns
mod KeepReturns
pub mod ArrangeReturns
pub mod PinnedOrder
pub mod OneAnswer

pub mod PinnedPassing
pub mod PassLaws
pub mod PassRead
pub mod NamesLaws
pub mod OwnWalked
pub mod OwnFrames
mod PartReturns
mod FrameReturns
mod NameReturns
pub mod OneAnswer

pub mod RoomLaws
mod NameReturns
mod PinnedNames
pub mod OneAnswer

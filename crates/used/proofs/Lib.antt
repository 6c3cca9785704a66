pub mod Chains
pub mod UsedLaws
pub mod ReadLaws
pub mod PlaceReturns
pub mod PinnedPlace
pub mod OneAnswer

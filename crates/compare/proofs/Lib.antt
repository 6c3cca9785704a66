pub mod OrderLaws
pub mod PinnedCompare
pub mod OneAnswer

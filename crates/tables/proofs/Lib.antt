pub mod SecondReturns
pub mod FitReturns
pub mod PinnedTables
pub mod OneAnswer

mod PairReturns
pub mod OneAnswer

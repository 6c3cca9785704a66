pub mod RunLaws
pub mod JoinReturns
pub mod OneAnswer

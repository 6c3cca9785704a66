pub mod AnswerLaws
pub mod BetweenLaws
pub mod SpanLaws
pub mod FrontLaws
pub mod FrontReturns
pub mod MadeLaws
pub mod OneAnswer

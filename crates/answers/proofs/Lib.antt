pub mod AnswerLaws
pub mod WholeInput
pub mod OneAnswer

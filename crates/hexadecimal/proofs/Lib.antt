pub mod TypingLaws
pub mod Parts
pub mod OneAnswer

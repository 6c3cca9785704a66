pub mod ReplyLaws
pub mod OneAnswer

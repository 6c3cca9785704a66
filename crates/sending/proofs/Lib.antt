pub mod SentLaws
pub mod OneAnswer
pub mod Refusals

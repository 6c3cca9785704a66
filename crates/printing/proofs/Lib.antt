pub mod TextLaws
pub mod OneAnswer

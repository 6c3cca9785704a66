pub mod ViewLaws
pub mod OneAnswer

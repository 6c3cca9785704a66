pub mod AfterLaws
pub mod OneAnswer

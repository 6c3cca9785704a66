pub mod PutLaws
pub mod OneAnswer

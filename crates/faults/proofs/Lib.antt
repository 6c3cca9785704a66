pub mod NotedLaws
pub mod SumLaws
pub mod OneAnswer

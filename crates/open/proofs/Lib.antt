pub mod FillLaws
pub mod OpenLaws
pub mod OneAnswer

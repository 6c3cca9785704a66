pub mod EndLaws
pub mod MadeLaws
pub mod OneAnswer

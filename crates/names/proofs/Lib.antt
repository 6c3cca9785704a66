pub mod MadeLaws
pub mod NameBound
pub mod NameFound
pub mod NameApart
pub mod ReadNames
pub mod OneAnswer

pub mod FieldCases
pub mod ReadingOn
pub mod LoopLaws
pub mod SizedItems
pub mod OneAnswer

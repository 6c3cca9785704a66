pub mod MadeLaws
mod FaultLaws
pub mod NameReturns
pub mod LeafHeadings
mod LeafReturns
mod PositionReturns
mod FrontReturns
pub mod OneAnswer

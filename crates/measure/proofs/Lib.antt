mod MadeLaws
mod SmallLaws
mod ContainerFits
mod FieldCases
mod LoopState
mod LoopLaws
mod NameLaws
mod EndLaws
mod LoopReturns
mod Settling
pub mod OneAnswer

mod RangeReturns
mod RangeLaws
mod HalfLaws
mod CutLaws
mod PassLaws
pub mod WalkLaws
mod CutReturns
mod SearchReturns
mod FillReturns
pub mod TwinLaws
mod FrontLaws
mod FrontReturns
pub mod SourceLaws
pub mod OneAnswer
pub mod PinnedSelect

mod TableLaws
pub mod ApartLaws
mod DigitLaws
mod RangeReturns
mod SplitReturns
mod HalveReturns
mod DepthLaws
mod NarrowReturns
mod DivideReturns
pub mod PinnedDivide
pub mod OneAnswer

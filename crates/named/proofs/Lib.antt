pub mod NamedCases
pub mod ObjectLaws
pub mod ArrayLaws
pub mod TopReturns
pub mod PinnedTop
pub mod OneAnswer

pub mod MaskCases
pub mod PinnedMasked
pub mod OneAnswer

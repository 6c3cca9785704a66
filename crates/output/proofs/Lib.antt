pub mod CopyReturns
pub mod EncodedReturns
pub mod PinnedOutput
pub mod OneAnswer

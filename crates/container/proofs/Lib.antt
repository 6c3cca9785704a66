mod Returns
pub mod Clearing
mod PinnedNumbers
pub mod OneAnswer

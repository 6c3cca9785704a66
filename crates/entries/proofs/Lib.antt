pub mod EntryLaws
pub mod Perms
pub mod LeastLaws
pub mod PinnedEntries
pub mod OneAnswer

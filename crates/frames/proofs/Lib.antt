pub mod RefusedLaws
pub mod PinnedWrites
pub mod Flaws
pub mod PlaceLaws
pub mod FrontLaws
pub mod LeafLaws
pub mod SharedLaws
pub mod ContainerLaws
pub mod PackedLaws
pub mod Used
pub mod Described
pub mod Answers
mod FramedFields
pub mod Describable
pub mod ListLength
pub mod Writable
pub mod Beyond
mod FramesLocal
mod FrameParts
mod OpenLists
pub mod Refusals
pub mod RefusedPlaces
pub mod FirstFaulty
pub mod WrittenAs
pub mod OneAnswer

mod PutLaws
mod AgainReturns
mod LeafPut
mod Header
mod PutFacts
mod PutField
mod PutState
mod PutStart
mod PutLoop
mod Top
pub mod OneAnswer

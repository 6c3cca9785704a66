pub mod LeafLaws
pub mod HeadLaws
pub mod HeadReturns
pub mod MeetReturns
pub mod ItemReturns
pub mod MeetingLaws
pub mod OneAnswer

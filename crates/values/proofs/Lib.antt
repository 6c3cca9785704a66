pub mod LeafLaws
pub mod ValueLaws
pub mod IntegerLaws
pub mod OneAnswer

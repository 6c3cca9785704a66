pub mod FieldLaws
pub mod StepLaws
pub mod LookLaws
pub mod OneAnswer
pub mod AnyStep

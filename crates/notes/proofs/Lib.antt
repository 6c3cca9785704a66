pub mod NoteLaws
mod NoteReturns
pub mod PinnedNotes
pub mod OneAnswer

pub mod Rule
pub mod Width
pub mod Answer

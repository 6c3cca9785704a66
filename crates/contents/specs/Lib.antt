pub mod Contents
pub mod Made

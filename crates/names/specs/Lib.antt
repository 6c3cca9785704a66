pub mod Made
pub mod FieldNames

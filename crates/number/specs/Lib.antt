pub mod BigEndian
pub mod VarUInt
pub mod Signed
pub mod Fixed
pub mod Negative

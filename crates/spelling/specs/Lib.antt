pub mod Flawed
pub mod Spells
pub mod FlawTable
pub mod Halts
pub mod MaskSaid

pub mod Frozen
pub mod Keeping

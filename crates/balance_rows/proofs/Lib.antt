pub mod Meaning
pub mod Bounds

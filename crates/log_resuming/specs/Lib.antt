pub mod Resumed
pub mod laws

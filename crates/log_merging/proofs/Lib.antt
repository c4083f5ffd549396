pub mod Begun
pub mod Mergings

pub mod Line
pub mod Setups
pub mod Front
pub mod Law
pub mod laws

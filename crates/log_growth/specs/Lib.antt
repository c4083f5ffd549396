pub mod Growth
pub mod Logs
pub mod laws

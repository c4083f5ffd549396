pub mod Logging
pub mod laws

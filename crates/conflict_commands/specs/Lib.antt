pub mod Finding
pub mod Logging
pub mod Checking

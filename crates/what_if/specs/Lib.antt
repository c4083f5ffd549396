pub mod Loose
pub mod Head
pub mod Estimate
pub mod OldLogs
pub mod Raised
pub mod laws

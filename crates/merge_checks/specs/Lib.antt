pub mod CheckedLogs
pub mod laws

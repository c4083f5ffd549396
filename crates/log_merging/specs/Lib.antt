pub mod MergedLogs
pub mod laws

pub mod Heads
pub mod OwnLogs

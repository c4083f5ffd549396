pub mod Heads
pub mod Joining
pub mod OtherHeads
pub mod PartLogs
pub mod Stops
pub mod laws

pub mod Lines
pub mod Violations
pub mod Simulation
pub mod Kept
pub mod Checking
pub mod Planning
pub mod Levels
pub mod Changed

pub mod Conflict
pub mod Logged
pub mod Passes

pub mod Remaining
pub mod Standing
pub mod Steps

pub mod Resuming
pub mod Merging

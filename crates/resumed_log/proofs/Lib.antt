pub mod OpenSplits
pub mod Puts
pub mod Readers

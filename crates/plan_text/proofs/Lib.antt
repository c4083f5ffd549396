pub mod Again
pub mod Kept
pub mod Lines
pub mod Reading
pub mod Short

pub mod Lines
pub mod Sources
pub mod Answers
pub mod Frames

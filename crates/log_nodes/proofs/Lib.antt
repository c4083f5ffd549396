pub mod Frames
pub mod Parts
pub mod Readings
pub mod Skipped
pub mod Walking
pub mod Stays

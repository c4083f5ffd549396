pub mod Reading
pub mod Walk
pub mod Parts

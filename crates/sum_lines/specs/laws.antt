pub mod Words
pub mod Reading
pub mod Walk
pub mod Sums

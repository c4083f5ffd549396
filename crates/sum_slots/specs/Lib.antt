pub mod Law
pub mod Shown
pub mod Sum
pub mod Larger

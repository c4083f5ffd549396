pub mod Passing
pub mod Proving

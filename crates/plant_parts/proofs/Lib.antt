pub mod Digits
pub mod Cutting
pub mod Meaning

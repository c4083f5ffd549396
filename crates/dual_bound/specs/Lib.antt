pub mod Cap
pub mod Line
pub mod Plain
pub mod Total
pub mod Trimmed
pub mod laws

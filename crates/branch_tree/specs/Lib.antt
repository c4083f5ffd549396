pub mod Compared
pub mod Deep
pub mod Justified
pub mod SearchRequest
pub mod Searched
pub mod Splits
pub mod laws

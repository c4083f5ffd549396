pub mod Amounts
pub mod LowestTerms
pub mod Sums
pub mod Written

pub mod Climbed
pub mod Factors
pub mod Polished
pub mod RowBest
pub mod laws

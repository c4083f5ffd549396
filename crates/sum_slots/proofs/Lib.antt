pub mod Bounds
pub mod EntrySums
pub mod Joined
pub mod Lanes
pub mod Quotients
pub mod Ranges
pub mod Sameness
pub mod SumRows

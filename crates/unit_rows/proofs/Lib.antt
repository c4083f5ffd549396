pub mod Growing
pub mod Counts
pub mod Nearness
pub mod PointRows
pub mod BusyRows
pub mod GapRows
pub mod FirstRows
pub mod RowCounts

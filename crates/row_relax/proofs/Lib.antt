pub mod Choosing
pub mod Marks
pub mod OnlyPoints
pub mod PointCounts

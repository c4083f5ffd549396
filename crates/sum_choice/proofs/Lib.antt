pub mod DomainBounds
pub mod PointsLeft
pub mod RowBounds
pub mod SumBounds

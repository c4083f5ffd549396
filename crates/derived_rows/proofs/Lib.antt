pub mod Products
pub mod Rounds
pub mod SlotSums
pub mod Grouped
pub mod Mixed
pub mod Held
pub mod Bounds
pub mod LineSums

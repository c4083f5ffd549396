pub mod Slots
pub mod PlanPoint

pub mod NamedLog
pub mod Solving
pub mod Replanning
pub mod Improving
pub mod PlanningOn
pub mod PartSolving
pub mod Frames

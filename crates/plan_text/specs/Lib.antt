pub mod PlanLines
pub mod PlanText
pub mod Published
pub mod ReadsBack

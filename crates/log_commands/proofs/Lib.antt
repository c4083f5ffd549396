pub mod CheckReplanLemmas
pub mod PlanTexts

pub mod NamedLemmas
pub mod PlannedLemmas
pub mod ReplanLemmas
pub mod OnLemmas
pub mod PartLemmas

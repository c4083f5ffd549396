pub mod WordLemmas
pub mod StepWords
pub mod LogWords
pub mod PartWords
pub mod UseWords
pub mod ShareWords

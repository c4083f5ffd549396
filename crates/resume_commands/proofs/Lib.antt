pub mod Telling
pub mod MergeLemmas

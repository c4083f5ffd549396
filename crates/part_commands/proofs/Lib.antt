pub mod Ranges
pub mod JoinLemmas

pub mod Clock
pub mod Bare

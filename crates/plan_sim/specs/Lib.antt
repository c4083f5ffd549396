pub mod Faults
pub mod Money
pub mod Moves
pub mod Tables
pub mod Units
pub mod Verdicts

pub mod Claims
pub mod Ended
pub mod Given
pub mod Heads
pub mod Law
pub mod Outcomes
pub mod Proofs
pub mod Telling

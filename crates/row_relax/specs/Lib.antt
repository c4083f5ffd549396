pub mod Choices
pub mod RowProofs
pub mod Settle
pub mod Steps
pub mod View
pub mod laws

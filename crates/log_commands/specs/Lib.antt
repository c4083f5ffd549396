pub mod Showing
pub mod Telling
pub mod CheckingReplan
pub mod Amounts

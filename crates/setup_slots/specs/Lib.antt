pub mod Slots
pub mod Rows
pub mod Larger
pub mod Image
pub mod Several
pub mod Law

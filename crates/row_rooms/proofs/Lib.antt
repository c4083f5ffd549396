pub mod Columns
pub mod Left
pub mod Turning

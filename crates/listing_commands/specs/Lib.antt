pub mod Upgrading
pub mod Numbering
pub mod Printing

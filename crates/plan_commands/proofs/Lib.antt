pub mod Rolls
pub mod RolledLine

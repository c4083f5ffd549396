pub mod Checks
pub mod Conflicts
pub mod PutText

pub mod Steps
pub mod LogFiles
pub mod Judged

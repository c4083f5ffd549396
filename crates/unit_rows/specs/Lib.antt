pub mod Busy
pub mod Gaps
pub mod Firsts

pub mod Earned
pub mod Firsts
pub mod Following
pub mod Tables
pub mod Placed
pub mod Rows

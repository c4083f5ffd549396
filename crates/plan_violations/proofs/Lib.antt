pub mod Places
pub mod Early
pub mod Meeting
pub mod Leads
pub mod Shown
pub mod Firsts

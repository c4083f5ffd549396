pub mod Ended
pub mod Grows
pub mod ReadOn
pub mod Steps

pub mod Lists
pub mod Breaches
pub mod Laws
pub mod Next
pub mod Shown
pub mod Meeting

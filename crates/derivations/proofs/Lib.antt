pub mod Again
pub mod Holding
pub mod OneMore
pub mod Shares

pub mod LookedAt
pub mod NodeCaps
pub mod Others
pub mod Passed
pub mod Places
pub mod Puts
pub mod Smaller
pub mod Stands

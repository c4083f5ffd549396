pub mod Line
pub mod Head
pub mod Front
pub mod Walk
pub mod Law
pub mod laws

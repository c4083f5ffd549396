pub mod Line
pub mod Tail
pub mod Front
pub mod Law
pub mod laws

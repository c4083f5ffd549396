pub mod Growth
pub mod Larger
pub mod Grown
pub mod Anew
pub mod Law
pub mod laws

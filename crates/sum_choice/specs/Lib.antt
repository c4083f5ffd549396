pub mod Headed
pub mod laws

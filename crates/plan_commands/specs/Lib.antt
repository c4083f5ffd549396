pub mod Rolling
pub mod laws

pub mod Lines
pub mod Kept
pub mod Seen
pub mod Fronts
pub mod OneFront

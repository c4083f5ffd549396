pub mod Caps
pub mod Images
pub mod Extensions
pub mod Boxes
pub mod Told
pub mod Law

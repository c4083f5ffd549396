pub mod OpenEnds
pub mod Reading
pub mod Texts
pub mod laws

pub mod Allowing
pub mod Imaging
pub mod Losing
pub mod Plans
pub mod Setups
pub mod Telling

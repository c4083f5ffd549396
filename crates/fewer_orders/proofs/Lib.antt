pub mod FewerSound
pub mod Picked

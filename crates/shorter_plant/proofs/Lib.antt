pub mod Longer
pub mod ShorterSound

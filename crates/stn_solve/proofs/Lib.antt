pub mod SearchTold
pub mod BegunTold
pub mod Frames
pub mod Limited
pub mod Searchable
pub mod ToldOver

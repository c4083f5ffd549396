pub mod Parting
pub mod JoiningParts

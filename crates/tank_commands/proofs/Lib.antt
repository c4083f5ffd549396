pub mod TankLines
pub mod TankAnswers

pub mod FactorsRise
pub mod HeadChosen
pub mod Limits
pub mod UnitsRise
pub mod UnitsSet

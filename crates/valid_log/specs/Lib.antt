pub mod Meaning
pub mod Verdict
pub mod Heads
pub mod AnyVersion
pub mod SumTexts
pub mod Claims
pub mod PlantLogs
pub mod Law

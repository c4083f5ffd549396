pub mod Parts
pub mod PlantProgram
pub mod ProfitParts

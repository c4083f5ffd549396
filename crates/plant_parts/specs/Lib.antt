pub mod PlantParts

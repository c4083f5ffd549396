pub mod PlantAt

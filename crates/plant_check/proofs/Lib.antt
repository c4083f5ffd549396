pub mod FirstBad
pub mod HeadJudged
pub mod OwnSaying
pub mod PlantSaying
pub mod ShownVerdicts
pub mod SetupsRead

pub mod HeadLines
pub mod HeadDefects
pub mod SetupDefects
pub mod TailLines
pub mod TailDefects

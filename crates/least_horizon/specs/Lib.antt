pub mod LogNames
pub mod Least
pub mod Stems

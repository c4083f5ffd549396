pub mod Before
pub mod Domains
pub mod Meaning
pub mod Building
pub mod Standing

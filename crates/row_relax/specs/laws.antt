-- What the language wants in specs/, and no public clause cites.
pub mod Lawful
pub mod Laws
pub mod Shown
pub mod Singles

-- What the language wants in specs/, and no public clause cites.
pub mod Reach

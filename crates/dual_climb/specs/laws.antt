-- What the language wants in specs/, and no public clause cites.
pub mod Along
pub mod Held
pub mod Sums

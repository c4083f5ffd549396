-- What no public clause cites and the language wants in specs/ all the same: definitions of private functions' clauses, and proofs of ghost members.
pub mod Led
pub mod Held

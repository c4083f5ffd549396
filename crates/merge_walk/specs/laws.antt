-- What only clauses of what merges cite: the language wants the definitions of every clause in specs/.
pub mod Closing
pub mod Opened
pub mod Walked

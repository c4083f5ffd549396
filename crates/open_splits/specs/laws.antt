-- What only clauses of walks cite: the language wants the definitions of every clause in specs/.
pub mod Behind
pub mod Opened

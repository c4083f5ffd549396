-- What only clauses of private functions cite: the language wants the definitions of every clause in specs/.
pub mod Checked
pub mod Copying

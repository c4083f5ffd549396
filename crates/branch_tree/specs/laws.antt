-- What only clauses of private functions cite: the language wants the definitions of every clause in specs/.
pub mod Ends
pub mod Going
pub mod Grounds
pub mod Handed
pub mod Picks
pub mod Stops

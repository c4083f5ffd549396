-- Stands in specs/ since clauses of private functions cite it; no public clause does.
-- A sum that was read.
use Rattle.std.specs.Prelude.{◌≡◌, ◌+◌, ℕ, true}
use Rattle.log_lines.specs.declared.grammar.Limits.{Limits}
use Rattle.sum_slots.specs.declared.sum.Sum.{Sum}
use Rattle.sum_slots.specs.Sum.{IsDeclared}
use Rattle.sum_lines.specs.Front.{has_room}
use Rattle.sum_lines.specs.Head.{HasRows}

-- a sum is declared, its rows are there, and a head of a version has room for it after so many
pub record IsSumKept (version : ℕ) (limits : Limits) (before : ℕ) (sum : Sum) : Type 0 where
  pub declared : IsDeclared limits.slots sum
  pub rows : HasRows limits.rows sum
  pub room : has_room version limits (before + 1) ≡ true

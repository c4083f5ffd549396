use Rattle.std.proofs.Common.{◌≡◌, ◌≤◌, length, true}
use Rattle.dual_bound.specs.Total.{are_fit}
use Rattle.dual_simplex.proofs.mults.list_mults.Given as goal

abbrev pub invariant-loop-row : goal.invariant-loop-row
invariant-loop-row l = record { fit : are_fit l.row 0 l.mults.items ≡ true; few : length l.mults.items ≤ 50000 }

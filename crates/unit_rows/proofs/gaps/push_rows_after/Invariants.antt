use Rattle.std.proofs.Common.{◌≡◌, ◌++◌, take}
use Rattle.unit_rows.specs.Gaps.{rows_after}
use Rattle.unit_rows.proofs.gaps.push_rows_after.Given as goal

abbrev pub invariant-loop-place : goal.invariant-loop-place
invariant-loop-place l = l.into.items ≡ l.initial.into.items ++ rows_after l.plant l.first (take l.place l.grid)

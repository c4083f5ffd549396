use Rattle.std.proofs.Common.{◌≡◌, ◌++◌, take}
use Rattle.unit_rows.specs.Gaps.{rows_from}
use Rattle.unit_rows.proofs.gaps.push_unit_rows.Given as goal

abbrev pub invariant-loop-place : goal.invariant-loop-place
invariant-loop-place l = l.into.items ≡ l.initial.into.items ++ rows_from l.plant l.unit (take l.place l.grid)

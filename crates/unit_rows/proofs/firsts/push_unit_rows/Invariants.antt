use Rattle.std.proofs.Common.{◌≡◌, ◌++◌, take}
use Rattle.unit_rows.specs.Firsts.{firsts_among}
use Rattle.unit_rows.proofs.firsts.push_unit_rows.Given as goal

abbrev pub invariant-loop-place : goal.invariant-loop-place
invariant-loop-place l = l.into.items ≡ l.initial.into.items ++ firsts_among l.plant l.unit (take l.place l.grid)

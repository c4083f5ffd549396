use Rattle.std.proofs.Common.{◌≡◌, map, take}
use Rattle.unit_rows.specs.Firsts.{first_part}
use Rattle.unit_rows.proofs.firsts.first_parts.Given as goal

abbrev pub invariant-loop-place : goal.invariant-loop-place
invariant-loop-place l = l.parts.items ≡ map (first_part l.plant l.slot) (take l.place l.grid)

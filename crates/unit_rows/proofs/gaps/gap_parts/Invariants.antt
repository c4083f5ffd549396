use Rattle.std.proofs.Common.{◌≡◌, map, take}
use Rattle.unit_rows.specs.Gaps.{gap_part}
use Rattle.unit_rows.proofs.gaps.gap_parts.Given as goal

abbrev pub invariant-loop-place : goal.invariant-loop-place
invariant-loop-place l = l.parts.items ≡ map (gap_part l.plant l.first l.second) (take l.place l.grid)

use Rattle.std.proofs.Common.{◌≡◌, map, take}
use Rattle.row_set.specs.ProfitParts.{profit_part}
use Rattle.row_set.proofs.parts.profit_parts.Given as goal

abbrev pub invariant-loop-place : goal.invariant-loop-place
invariant-loop-place l = l.parts.items ≡ map (profit_part l.plant) (take l.place l.grid)

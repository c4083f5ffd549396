-- The limits of the rows so far.
use Rattle.std.proofs.Common.{◌≡◌, map, take}
use Rattle.row_kit.specs.declared.row.Row.{Row}
use Rattle.row_rooms.proofs.rooms.limits.Given as goal

abbrev pub invariant-loop-row : goal.invariant-loop-row
invariant-loop-row l = l.limits.items ≡ map (λ (row : Row). row.limit) (take l.row-index l.rows)

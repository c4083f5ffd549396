use Rattle.std.proofs.Common.{◌≡◌, map, take}
use Rattle.unit_rows.specs.Busy.{busy_part}
use Rattle.unit_rows.proofs.busy.busy_parts.Given as goal

abbrev pub invariant-loop-slot : goal.invariant-loop-slot
invariant-loop-slot l = l.parts.items ≡ map (busy_part l.plant l.unit l.period) (take l.slot l.grid)

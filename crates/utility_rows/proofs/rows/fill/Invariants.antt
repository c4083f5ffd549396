use Rattle.std.proofs.Common.{◌≡◌, map, take}
use Rattle.time_grid.specs.Slots.{slots}
use Rattle.utility_rows.specs.LoadRows.{load_parts}
use Rattle.utility_rows.proofs.rows.fill.Given as goal

abbrev pub invariant-loop-slot : goal.invariant-loop-slot
invariant-loop-slot l = take l.slot l.parts ≡ map (load_parts l.plant l.utility l.period) (take l.slot (slots l.plant))

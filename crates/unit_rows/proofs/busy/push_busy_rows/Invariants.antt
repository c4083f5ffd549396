use Rattle.std.proofs.Common.{◌≡◌, ◌++◌}
use Rattle.std.specs.List.{flat_map, range_with_len}
use Rattle.unit_rows.specs.Busy.{unit_busy_rows}
use Rattle.unit_rows.proofs.busy.push_busy_rows.Given as goal

abbrev pub invariant-loop-unit : goal.invariant-loop-unit
invariant-loop-unit l = l.into.items ≡ l.initial.into.items ++ flat_map (λ unit. unit_busy_rows l.plant unit l.plant.periods) (range_with_len 0 l.unit)

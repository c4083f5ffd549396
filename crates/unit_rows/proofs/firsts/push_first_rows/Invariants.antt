use Rattle.std.proofs.Common.{◌≡◌, ◌++◌}
use Rattle.std.specs.List.{flat_map, range_with_len}
use Rattle.unit_rows.specs.Firsts.{unit_first_rows}
use Rattle.unit_rows.proofs.firsts.push_first_rows.Given as goal

abbrev pub invariant-loop-unit : goal.invariant-loop-unit
invariant-loop-unit l = l.into.items ≡ l.initial.into.items ++ flat_map (unit_first_rows l.plant) (range_with_len 0 l.unit)

use Rattle.std.proofs.Common.{◌≡◌, ◌++◌}
use Rattle.std.specs.List.{flat_map, range_with_len}
use Rattle.row_names.specs.RowNames.{firsts_on}
use Rattle.row_names.proofs.firsts.push_firsts.Given as goal

abbrev pub invariant-loop-unit : goal.invariant-loop-unit
invariant-loop-unit l = l.names.items ≡ l.initial.names.items ++ flat_map (firsts_on l.plant) (range_with_len 0 l.unit)

use Rattle.std.proofs.Common.{◌≡◌, ◌++◌, map}
use Rattle.std.specs.List.{flat_map, range_with_len}
use Rattle.row_names.specs.declared.name.RowName.TheVariants.{Load}
use Rattle.row_names.proofs.tables.push_loads.Given as goal

abbrev pub invariant-loop-utility : goal.invariant-loop-utility
invariant-loop-utility l = l.names.items ≡ l.initial.names.items ++ flat_map (λ utility. map (Load utility) (range_with_len 0 l.plant.periods)) (range_with_len 0 l.utility)

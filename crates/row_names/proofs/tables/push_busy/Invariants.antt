use Rattle.std.proofs.Common.{◌≡◌, ◌++◌, map}
use Rattle.std.specs.List.{flat_map, range_with_len}
use Rattle.row_names.specs.declared.name.RowName.TheVariants.{Busy}
use Rattle.row_names.proofs.tables.push_busy.Given as goal

abbrev pub invariant-loop-unit : goal.invariant-loop-unit
invariant-loop-unit l = l.names.items ≡ l.initial.names.items ++ flat_map (λ unit. map (Busy unit) (range_with_len 0 l.plant.periods)) (range_with_len 0 l.unit)

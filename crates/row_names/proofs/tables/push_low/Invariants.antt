use Rattle.std.proofs.Common.{◌≡◌, ◌++◌, ◌+◌, map}
use Rattle.std.specs.List.{flat_map, range_with_len}
use Rattle.row_names.specs.declared.name.RowName.TheVariants.{Low}
use Rattle.row_names.proofs.tables.push_low.Given as goal

abbrev pub invariant-loop-state : goal.invariant-loop-state
invariant-loop-state l = l.names.items ≡ l.initial.names.items ++ flat_map (λ state. map (Low state) (range_with_len 0 (l.plant.periods + 1))) (range_with_len 0 l.state)

use Rattle.std.proofs.Common.{◌≡◌, ◌++◌, map}
use Rattle.std.specs.List.{range_with_len}
use Rattle.row_names.specs.declared.name.RowName.TheVariants.{Busy}
use Rattle.row_names.proofs.tables.push_unit.Given as goal

abbrev pub invariant-loop-period : goal.invariant-loop-period
invariant-loop-period l = l.names.items ≡ l.initial.names.items ++ map (Busy l.unit) (range_with_len 0 l.period)

use Rattle.std.proofs.Common.{◌≡◌, ◌++◌, map}
use Rattle.std.specs.List.{range_with_len}
use Rattle.row_names.specs.declared.name.RowName.TheVariants.{Low}
use Rattle.row_names.proofs.tables.push_low_of.Given as goal

abbrev pub invariant-loop-time : goal.invariant-loop-time
invariant-loop-time l = l.names.items ≡ l.initial.names.items ++ map (Low l.state) (range_with_len 0 l.time)

use Rattle.std.proofs.Common.{◌≡◌, ◌++◌, map}
use Rattle.std.specs.List.{range_with_len}
use Rattle.row_names.specs.declared.name.RowName.TheVariants.{High}
use Rattle.row_names.proofs.tables.push_high_of.Given as goal

abbrev pub invariant-loop-time : goal.invariant-loop-time
invariant-loop-time l = l.names.items ≡ l.initial.names.items ++ map (High l.state) (range_with_len 0 l.time)

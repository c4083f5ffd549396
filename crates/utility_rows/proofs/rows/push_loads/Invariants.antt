use Rattle.std.proofs.Common.{◌≡◌, ◌++◌}
use Rattle.row_kit.specs.Table.{rows_below}
use Rattle.utility_rows.specs.LoadRows.{load_row}
use Rattle.utility_rows.proofs.rows.push_loads.Given as goal

abbrev pub invariant-loop-period : goal.invariant-loop-period
invariant-loop-period l = l.rows.items ≡ l.initial.rows.items ++ rows_below (load_row l.plant l.utility) l.period

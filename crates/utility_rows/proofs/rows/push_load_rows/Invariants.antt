use Rattle.std.proofs.Common.{◌≡◌, ◌++◌}
use Rattle.row_kit.specs.Table.{row_table}
use Rattle.utility_rows.specs.LoadRows.{load_row}
use Rattle.utility_rows.proofs.rows.push_load_rows.Given as goal

abbrev pub invariant-loop-utility : goal.invariant-loop-utility
invariant-loop-utility l = l.rows.items ≡ l.initial.rows.items ++ row_table (load_row l.plant) (λ utility. l.plant.periods) l.utility

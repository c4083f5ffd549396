use Rattle.std.proofs.Common.{◌≡◌, ◌++◌, ◌+◌}
use Rattle.row_kit.specs.Table.{row_table}
use Rattle.balance_rows.specs.StockRows.{low_row}
use Rattle.balance_rows.proofs.rows.push_low_rows.Given as goal

abbrev pub invariant-loop-state : goal.invariant-loop-state
invariant-loop-state l = l.rows.items ≡ l.initial.rows.items ++ row_table (low_row l.plant) (λ state. l.plant.periods + 1) l.state

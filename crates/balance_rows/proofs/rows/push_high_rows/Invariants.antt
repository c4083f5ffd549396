use Rattle.std.proofs.Common.{◌≡◌, ◌++◌}
use Rattle.row_kit.specs.Table.{row_table}
use Rattle.balance_rows.specs.StockRows.{high_row, limit_count}
use Rattle.balance_rows.proofs.rows.push_high_rows.Given as goal

abbrev pub invariant-loop-state : goal.invariant-loop-state
invariant-loop-state l = l.rows.items ≡ l.initial.rows.items ++ row_table (high_row l.plant) (limit_count l.plant) l.state

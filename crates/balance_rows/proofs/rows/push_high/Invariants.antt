use Rattle.std.proofs.Common.{◌≡◌, ◌++◌}
use Rattle.row_kit.specs.Table.{rows_below}
use Rattle.balance_rows.specs.StockRows.{high_row}
use Rattle.balance_rows.proofs.rows.push_high.Given as goal

abbrev pub invariant-loop-time : goal.invariant-loop-time
invariant-loop-time l = l.rows.items ≡ l.initial.rows.items ++ rows_below (high_row l.plant l.state) l.time

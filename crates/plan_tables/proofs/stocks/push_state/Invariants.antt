use Rattle.std.proofs.Common.{◌≡◌, ◌++◌}
use Rattle.std.specs.List.{flat_map, range_with_len}
use Rattle.plan_tables.specs.Stocks.{stock_line}
use Rattle.plan_tables.proofs.stocks.push_state.Given as goal

abbrev pub invariant-loop-time : goal.invariant-loop-time
invariant-loop-time l = l.text.items ≡ l.initial.text.items ++ flat_map (stock_line l.plant l.plan l.state) (range_with_len 0 l.time)

use Rattle.std.proofs.Common.{◌≡◌, ◌++◌}
use Rattle.std.specs.List.{flat_map, range_with_len}
use Rattle.plan_tables.specs.Stocks.{state_lines}
use Rattle.plan_tables.proofs.stocks.push_states.Given as goal

abbrev pub invariant-loop-state : goal.invariant-loop-state
invariant-loop-state l = l.text.items ≡ l.initial.text.items ++ flat_map (state_lines l.plant l.plan) (range_with_len 0 l.state)

use Rattle.std.proofs.Common.{◌≡◌, ◌++◌}
use Rattle.std.specs.List.{flat_map, range_with_len}
use Rattle.plan_tables.specs.Loads.{load_line}
use Rattle.plan_tables.proofs.loads.push_utility.Given as goal

abbrev pub invariant-loop-period : goal.invariant-loop-period
invariant-loop-period l = l.text.items ≡ l.initial.text.items ++ flat_map (load_line l.plant l.plan l.utility) (range_with_len 0 l.period)

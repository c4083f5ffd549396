use Rattle.std.proofs.Common.{◌≡◌, ◌++◌}
use Rattle.std.specs.List.{flat_map, range_with_len}
use Rattle.plan_tables.specs.Loads.{utility_lines}
use Rattle.plan_tables.proofs.loads.push_utilities.Given as goal

abbrev pub invariant-loop-utility : goal.invariant-loop-utility
invariant-loop-utility l = l.text.items ≡ l.initial.text.items ++ flat_map (utility_lines l.plant l.plan) (range_with_len 0 l.utility)

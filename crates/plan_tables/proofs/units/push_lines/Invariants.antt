use Rattle.std.proofs.Common.{◌≡◌, ◌++◌}
use Rattle.std.specs.List.{flat_map, range_with_len}
use Rattle.plan_tables.specs.Units.{unit_line}
use Rattle.plan_tables.proofs.units.push_lines.Given as goal

abbrev pub invariant-loop-unit : goal.invariant-loop-unit
invariant-loop-unit l = l.text.items ≡ l.initial.text.items ++ flat_map (unit_line l.plant l.plan) (range_with_len 0 l.unit)

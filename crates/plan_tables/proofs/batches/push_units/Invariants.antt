use Rattle.std.proofs.Common.{◌≡◌, ◌++◌}
use Rattle.std.specs.List.{flat_map, range_with_len}
use Rattle.plan_tables.specs.Batches.{batch_line, unit_order}
use Rattle.plan_tables.proofs.batches.push_units.Given as goal

abbrev pub invariant-loop-unit : goal.invariant-loop-unit
invariant-loop-unit l = l.text.items ≡ l.initial.text.items ++ flat_map (batch_line l.plant l.plan) (flat_map (unit_order l.plant l.plan) (range_with_len 0 l.unit))

use Rattle.std.proofs.Common.{◌≡◌}
use Rattle.std.specs.List.{flat_map, range_with_len}
use Rattle.plan_tables.specs.Batches.{starting}
use Rattle.plan_tables.proofs.batches.by_period.Given as goal

abbrev pub invariant-loop-period : goal.invariant-loop-period
invariant-loop-period l = l.ordered.items ≡ flat_map (starting l.batches) (range_with_len 0 l.period)

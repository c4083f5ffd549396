use Rattle.std.proofs.Common.{◌≡◌, drop}
use Rattle.std.specs.List.{list_any}
use Rattle.plan_tables.specs.Units.{goes_on}
use Rattle.plan_tables.proofs.units.one_goes_on.Given as goal

abbrev pub invariant-loop-start : goal.invariant-loop-start
invariant-loop-start l = list_any (goes_on l.plant l.period) l.batches ≡ list_any (goes_on l.plant l.period) (drop l.start-index l.batches)

use Rattle.std.proofs.Common.{◌≤◌}
use Rattle.plan_tables.proofs.Periods.{Counted}
use Rattle.plan_tables.proofs.units.count_periods.Given as goal

abbrev pub invariant-loop-period : goal.invariant-loop-period
invariant-loop-period l = record {
  counted : Counted l.plant l.batches l.unit l.period l.times.running l.times.out l.times.cleaning l.times.idle;
  running_small : l.times.running ≤ l.period;
  out_small : l.times.out ≤ l.period;
  cleaning_small : l.times.cleaning ≤ l.period;
  idle_small : l.times.idle ≤ l.period;
}

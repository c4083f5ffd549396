use Rattle.std.proofs.Common.{◌≡◌, ◌+◌, ◌≤◌}
use Rattle.plant_labels.specs.Clock.{days_later}
use Rattle.plant_labels.proofs.clock.days_later.Given as goal

abbrev pub invariant-loop : goal.invariant-loop
invariant-loop l = record {
  days : l.later ≡ days_later l.fn.moment l.counter;
  year : l.later.year ≤ l.fn.moment.year + l.counter;
}

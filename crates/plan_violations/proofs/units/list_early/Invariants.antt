use Rattle.std.proofs.Common.{◌≡◌, ◌++◌}
use Rattle.plan_violations.specs.Lists.{listed_below}
use Rattle.plan_violations.specs.Breaches.{early_at}
use Rattle.plan_violations.proofs.units.list_early.Given as goal

abbrev pub invariant-loop-place : goal.invariant-loop-place
invariant-loop-place l = l.found.items ≡ l.initial.found.items ++ listed_below (early_at l.plant l.plan) l.place

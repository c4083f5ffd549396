use Rattle.std.proofs.Common.{◌≡◌, ◌++◌}
use Rattle.plan_violations.specs.Lists.{listed_below}
use Rattle.plan_violations.specs.Shown.{amounts_shown}
use Rattle.plan_violations.proofs.amounts.list_amounts.Given as goal

abbrev pub invariant-loop-time : goal.invariant-loop-time
invariant-loop-time l = l.found.items ≡ l.initial.found.items ++ listed_below (amounts_shown l.plant l.stocks l.loads) l.time

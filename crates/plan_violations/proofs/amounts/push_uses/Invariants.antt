use Rattle.std.proofs.Common.{◌≡◌, ◌++◌}
use Rattle.plan_violations.specs.Lists.{listed_below}
use Rattle.plan_violations.specs.Shown.{use_shown}
use Rattle.plan_violations.proofs.amounts.push_uses.Given as goal

abbrev pub invariant-loop-utility : goal.invariant-loop-utility
invariant-loop-utility l = l.found.items ≡ l.initial.found.items ++ listed_below (use_shown l.plant l.loads l.period) l.utility

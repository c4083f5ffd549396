use Rattle.std.proofs.Common.{◌≡◌, ◌++◌}
use Rattle.plan_violations.specs.Lists.{listed_below}
use Rattle.plan_violations.specs.Shown.{level_shown}
use Rattle.plan_violations.proofs.amounts.push_levels.Given as goal

abbrev pub invariant-loop-state : goal.invariant-loop-state
invariant-loop-state l = l.found.items ≡ l.initial.found.items ++ listed_below (level_shown l.plant l.stocks l.time) l.state

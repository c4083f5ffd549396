use Rattle.std.proofs.Common.{◌≡◌, ◌++◌, take}
use Rattle.plan_tables.specs.Batches.{starting}
use Rattle.plan_tables.proofs.batches.push_starting.Given as goal

abbrev pub invariant-loop-start : goal.invariant-loop-start
invariant-loop-start l = l.ordered.items ≡ l.initial.ordered.items ++ starting (take l.start-index l.batches) l.period

use Rattle.std.proofs.Common.{◌≡◌, take}
use Rattle.frozen_plan.specs.Frozen.{kept_starts}
use Rattle.frozen_plan.proofs.keeping.starts_before.Given as goal

abbrev pub invariant-loop-start : goal.invariant-loop-start
invariant-loop-start l = l.kept.items ≡ kept_starts l.period (take l.start-index l.plan)

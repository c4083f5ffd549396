use Rattle.std.proofs.Common.{◌≡◌}
use Rattle.plant_make.specs.Made.{chained, tasks_of}
use Rattle.plant_make.proofs.made.tasks.Given as goal

abbrev pub invariant-loop-chain : goal.invariant-loop-chain
invariant-loop-chain l = l.tasks ≡ chained (tasks_of l.seed) l.chain

use Rattle.std.proofs.Common.{◌≡◌}
use Rattle.plant_make.specs.Made.{chained, runs_of}
use Rattle.plant_make.proofs.made.runs.Given as goal

abbrev pub invariant-loop-chain : goal.invariant-loop-chain
invariant-loop-chain l = l.runs ≡ chained (runs_of l.seed) l.chain

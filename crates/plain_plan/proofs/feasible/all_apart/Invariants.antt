use Rattle.std.proofs.Common.{take}
use Rattle.std.specs.Prelude.{AllPairs}
use Rattle.stn_model.specs.Batches.{Apart}
use Rattle.plain_plan.proofs.feasible.all_apart.Given as goal

abbrev pub invariant-loop-place : goal.invariant-loop-place
invariant-loop-place l = AllPairs (Apart l.plant) (take l.place l.plan)

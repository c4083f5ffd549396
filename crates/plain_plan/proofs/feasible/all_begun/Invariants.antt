use Rattle.std.proofs.Common.{take}
use Rattle.std.specs.Prelude.{All}
use Rattle.stn_model.specs.Batches.{Begun}
use Rattle.plain_plan.proofs.feasible.all_begun.Given as goal

abbrev pub invariant-loop-b : goal.invariant-loop-b
invariant-loop-b l = All (Begun l.plant l.plan) (take l.b-index l.plan)

use Rattle.std.proofs.Common.{take}
use Rattle.std.specs.Prelude.{All}
use Rattle.stn_model.specs.Batches.{Cleaned}
use Rattle.plain_plan.proofs.feasible.all_cleaned_after.Given as goal

abbrev pub invariant-loop-b : goal.invariant-loop-b
invariant-loop-b l = All (Cleaned l.plant l.plan l.a) (take l.b-index l.plan)

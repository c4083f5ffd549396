use Rattle.std.proofs.Common.{take}
use Rattle.std.specs.Prelude.{All}
use Rattle.stn_model.specs.Batches.{Cleaned}
use Rattle.plain_plan.proofs.feasible.all_cleaned.Given as goal

abbrev pub invariant-loop-a : goal.invariant-loop-a
invariant-loop-a l = All (λ a. All (Cleaned l.plant l.plan a) l.plan) (take l.a-index l.plan)

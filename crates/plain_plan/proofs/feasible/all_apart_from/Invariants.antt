use Rattle.std.proofs.Common.{take}
use Rattle.std.specs.Prelude.{All}
use Rattle.stn_model.specs.Batches.{Apart}
use Rattle.plain_plan.proofs.feasible.all_apart_from.Given as goal

abbrev pub invariant-loop-a : goal.invariant-loop-a
invariant-loop-a l = All (λ a. Apart l.plant a l.b) (take l.a-index l.earlier)

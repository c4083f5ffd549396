use Rattle.std.proofs.Common.{take}
use Rattle.std.specs.Prelude.{All}
use Rattle.stn_model.specs.Fits.{Fits}
use Rattle.plain_plan.proofs.feasible.all_fit.Given as goal

abbrev pub invariant-loop-start : goal.invariant-loop-start
invariant-loop-start l = All (Fits l.plant) (take l.start-index l.plan)

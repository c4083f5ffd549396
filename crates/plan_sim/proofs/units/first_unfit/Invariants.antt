use Rattle.plan_sim.specs.Units.{FitUntil}
use Rattle.plan_sim.proofs.units.first_unfit.Given as goal

abbrev pub invariant-loop-place : goal.invariant-loop-place
invariant-loop-place l = FitUntil l.plant l.plan l.place

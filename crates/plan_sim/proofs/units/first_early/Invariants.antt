use Rattle.plan_sim.specs.Units.{BegunUntil}
use Rattle.plan_sim.proofs.units.first_early.Given as goal

abbrev pub invariant-loop-place : goal.invariant-loop-place
invariant-loop-place l = BegunUntil l.plant l.plan l.place

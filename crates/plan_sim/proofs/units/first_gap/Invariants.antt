use Rattle.plan_sim.specs.Units.{CleanedUntil}
use Rattle.plan_sim.proofs.units.first_gap.Given as goal

abbrev pub invariant-loop-first : goal.invariant-loop-first
invariant-loop-first l = CleanedUntil l.plant l.plan l.first

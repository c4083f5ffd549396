use Rattle.plan_sim.specs.Faults.{LevelsKept}
use Rattle.plan_sim.proofs.faults.first_level.Given as goal

abbrev pub invariant-loop-state : goal.invariant-loop-state
invariant-loop-state l = LevelsKept l.plant l.stocks l.state l.time

use Rattle.plan_sim.specs.Faults.{UsesKept}
use Rattle.plan_sim.proofs.faults.first_use.Given as goal

abbrev pub invariant-loop-utility : goal.invariant-loop-utility
invariant-loop-utility l = UsesKept l.plant l.loads l.utility l.period

use Rattle.plan_sim.specs.Faults.{KeptBefore}
use Rattle.plan_sim.proofs.faults.first_fault.Given as goal

abbrev pub invariant-loop-time : goal.invariant-loop-time
invariant-loop-time l = KeptBefore l.plant l.stocks l.loads l.time

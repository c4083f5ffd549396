use Rattle.std.proofs.Common.{ℕ, ◌<◌, length}
use Rattle.plan_sim.specs.Faults.{UsesKept}
use Rattle.rolled_plant.proofs.unmended.first_load.Given as goal

abbrev pub invariant-loop-period : goal.invariant-loop-period
invariant-loop-period l = (time : ℕ) → time < l.period → UsesKept l.plant l.loads (length l.plant.utilities) time

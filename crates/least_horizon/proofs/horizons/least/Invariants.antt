use Rattle.std.proofs.Common.{None}
use Rattle.least_horizon.specs.Least.{AreInfeasible}
use Rattle.least_horizon.proofs.horizons.least.Given as goal

abbrev pub invariant-loop-horizon : goal.invariant-loop-horizon
invariant-loop-horizon g l = AreInfeasible l.plant l.budget (λ _. None) l.horizon

use Rattle.std.proofs.Common.{◌<◌, ℕ}
use Rattle.stn_model.specs.Feasible.{LoadKept}
use Rattle.plain_plan.proofs.feasible.all_loads_kept.Given as goal

abbrev pub invariant-loop-utility : goal.invariant-loop-utility
invariant-loop-utility l = (utility period : ℕ) → utility < l.utility → period < l.plant.periods → LoadKept l.plant l.plan utility period

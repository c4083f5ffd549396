use Rattle.std.proofs.Common.{◌<◌, ℕ}
use Rattle.stn_model.specs.Feasible.{LoadKept}
use Rattle.plain_plan.proofs.feasible.is_load_kept.Given as goal

abbrev pub invariant-loop-period : goal.invariant-loop-period
invariant-loop-period l = (period : ℕ) → period < l.period → LoadKept l.plant l.plan l.utility period

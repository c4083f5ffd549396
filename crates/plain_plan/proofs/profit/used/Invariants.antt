use Rattle.std.proofs.Common.{◌≡◌, ◌≤◌, ◌*◌, ◌^◌}
use Rattle.std.specs.Prelude.{unsigned_abs, pos, ◌*ℤ◌}
use Rattle.stn_model.specs.Sums.{total_below}
use Rattle.stn_model.specs.Plant.{utility_at, rate_in}
use Rattle.stn_model.specs.Load.{load}
use Rattle.plain_plan.proofs.profit.used.Given as goal

abbrev pub invariant-loop-period : goal.invariant-loop-period
invariant-loop-period l = record {
  value : l.sum ≡ total_below (λ period. rate_in (utility_at l.plant l.utility) period *ℤ pos (load l.plant l.plan l.utility period)) l.period;
  small : unsigned_abs l.sum ≤ l.period * 2 ^ 108;
}

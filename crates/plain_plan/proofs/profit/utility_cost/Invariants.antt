use Rattle.std.proofs.Common.{◌≡◌, ◌≤◌, ◌*◌, ◌^◌}
use Rattle.std.specs.Prelude.{unsigned_abs, pos, ◌*ℤ◌}
use Rattle.stn_model.specs.Sums.{total_below}
use Rattle.stn_model.specs.Plant.{utility_at, rate_in}
use Rattle.stn_model.specs.Load.{load}
use Rattle.plain_plan.proofs.profit.utility_cost.Given as goal

abbrev pub invariant-loop-utility : goal.invariant-loop-utility
invariant-loop-utility l = record {
  value : l.sum ≡ total_below (λ utility. total_below (λ period. rate_in (utility_at l.plant utility) period *ℤ pos (load l.plant l.plan utility period)) l.plant.periods) l.utility;
  small : unsigned_abs l.sum ≤ l.utility * 2 ^ 117;
}

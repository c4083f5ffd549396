use Rattle.std.proofs.Common.{◌≡◌, ◌≤◌, ◌*◌, ◌^◌}
use Rattle.std.specs.Prelude.{unsigned_abs, ◌*ℤ◌}
use Rattle.stn_model.specs.Sums.{total_below}
use Rattle.stn_model.specs.Plant.{state_at}
use Rattle.stn_model.specs.Stock.{stock}
use Rattle.plain_plan.proofs.profit.held.Given as goal

abbrev pub invariant-loop-time : goal.invariant-loop-time
invariant-loop-time l = record {
  value : l.sum ≡ total_below (λ time. (state_at l.plant l.state).holding *ℤ stock l.plant l.plan l.state time) l.time;
  small : unsigned_abs l.sum ≤ l.time * 2 ^ 108;
}

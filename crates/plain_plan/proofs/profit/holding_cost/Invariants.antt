use Rattle.std.proofs.Common.{◌≡◌, ◌≤◌, ◌*◌, ◌^◌}
use Rattle.std.specs.Prelude.{unsigned_abs, ◌*ℤ◌}
use Rattle.stn_model.specs.Sums.{total_below}
use Rattle.stn_model.specs.Plant.{state_at}
use Rattle.stn_model.specs.Stock.{stock}
use Rattle.plain_plan.proofs.profit.holding_cost.Given as goal

abbrev pub invariant-loop-state : goal.invariant-loop-state
invariant-loop-state l = record {
  value : l.sum ≡ total_below (λ state. total_below (λ time. (state_at l.plant state).holding *ℤ stock l.plant l.plan state time) l.plant.periods) l.state;
  small : unsigned_abs l.sum ≤ l.state * 2 ^ 117;
}

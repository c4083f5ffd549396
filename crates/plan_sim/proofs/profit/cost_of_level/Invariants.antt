use Rattle.std.proofs.Common.{◌≡◌, ◌≤◌, ◌*◌, ◌^◌}
use Rattle.std.specs.Prelude.{unsigned_abs, ◌*ℤ◌}
use Rattle.stn_model.specs.Sums.{total_below}
use Rattle.stn_model.specs.Plant.{state_at}
use Rattle.plan_sim.specs.Faults.{level}
use Rattle.plan_sim.proofs.profit.cost_of_level.Given as goal

abbrev pub invariant-loop-time : goal.invariant-loop-time
invariant-loop-time l = record {
  value : l.sum ≡ total_below (λ time. (state_at l.plant l.state).holding *ℤ level l.plant l.stocks l.state time) l.time;
  small : unsigned_abs l.sum ≤ l.time * 2 ^ 110;
}

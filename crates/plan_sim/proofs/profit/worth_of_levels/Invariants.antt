use Rattle.std.proofs.Common.{◌≡◌, ◌≤◌, ◌*◌, ◌^◌}
use Rattle.std.specs.Prelude.{unsigned_abs, ◌*ℤ◌}
use Rattle.stn_model.specs.Sums.{total_below}
use Rattle.stn_model.specs.Plant.{state_at}
use Rattle.plan_sim.specs.Faults.{level}
use Rattle.plan_sim.proofs.profit.worth_of_levels.Given as goal

abbrev pub invariant-loop-state : goal.invariant-loop-state
invariant-loop-state l = record {
  value : l.sum ≡ total_below (λ state. (state_at l.plant state).price *ℤ level l.plant l.stocks state l.plant.periods) l.state;
  small : unsigned_abs l.sum ≤ l.state * 2 ^ 110;
}

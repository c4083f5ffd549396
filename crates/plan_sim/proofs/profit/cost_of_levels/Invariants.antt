use Rattle.std.proofs.Common.{◌≡◌, ◌≤◌, ◌*◌, ◌^◌}
use Rattle.std.specs.Prelude.{unsigned_abs}
use Rattle.stn_model.specs.Sums.{total_below}
use Rattle.plan_sim.specs.Money.{level_cost}
use Rattle.plan_sim.proofs.profit.cost_of_levels.Given as goal

abbrev pub invariant-loop-state : goal.invariant-loop-state
invariant-loop-state l = record {
  value : l.sum ≡ total_below (level_cost l.plant l.stocks) l.state;
  small : unsigned_abs l.sum ≤ l.state * (336 * 2 ^ 110);
}

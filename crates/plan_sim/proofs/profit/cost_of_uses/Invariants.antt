use Rattle.std.proofs.Common.{◌≡◌, ◌≤◌, ◌*◌, ◌^◌}
use Rattle.std.specs.Prelude.{unsigned_abs}
use Rattle.stn_model.specs.Sums.{total_below}
use Rattle.plan_sim.specs.Money.{use_cost}
use Rattle.plan_sim.proofs.profit.cost_of_uses.Given as goal

abbrev pub invariant-loop-utility : goal.invariant-loop-utility
invariant-loop-utility l = record {
  value : l.sum ≡ total_below (use_cost l.plant l.loads) l.utility;
  small : unsigned_abs l.sum ≤ l.utility * 2 ^ 119;
}

use Rattle.std.proofs.Common.{◌≡◌, ◌≤◌, ◌*◌, ◌^◌, take}
use Rattle.std.specs.Prelude.{unsigned_abs}
use Rattle.stn_model.specs.Sums.{total}
use Rattle.stn_model.specs.Plant.{run_on}
use Rattle.stn_model.specs.Profit.{cost_of}
use Rattle.plain_plan.proofs.profit.start_cost.Given as goal

abbrev pub invariant-loop-start : goal.invariant-loop-start
invariant-loop-start l = record {
  value : l.sum ≡ total (λ start. cost_of (run_on l.plant start.task start.unit)) (take l.start-index l.plan);
  small : unsigned_abs l.sum ≤ l.start-index * 2 ^ 20;
}

use Rattle.std.proofs.Common.{◌≡◌, ◌≤◌, ◌*◌, ◌^◌, sum_by, take}
use Rattle.stn_model.specs.Profit.{first_change}
use Rattle.plain_plan.proofs.profit.first_changes.Given as goal

abbrev pub invariant-loop-b : goal.invariant-loop-b
invariant-loop-b l = record {
  value : l.sum ≡ sum_by (first_change l.plant l.plan) (take l.b-index l.plan);
  small : l.sum ≤ l.b-index * 2 ^ 32;
}

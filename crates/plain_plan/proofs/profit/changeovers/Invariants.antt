use Rattle.std.proofs.Common.{◌≡◌, ◌≤◌, ◌*◌, ◌^◌, sum_by, take}
use Rattle.stn_model.specs.Profit.{changeover}
use Rattle.plain_plan.proofs.profit.changeovers.Given as goal

abbrev pub invariant-loop-a : goal.invariant-loop-a
invariant-loop-a l = record {
  value : l.sum ≡ sum_by (λ a. sum_by (changeover l.plant l.plan a) l.plan) (take l.a-index l.plan);
  small : l.sum ≤ l.a-index * 2 ^ 64;
}

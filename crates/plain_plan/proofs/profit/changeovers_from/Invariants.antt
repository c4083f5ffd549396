use Rattle.std.proofs.Common.{◌≡◌, ◌≤◌, ◌*◌, ◌^◌, sum_by, take}
use Rattle.stn_model.specs.Profit.{changeover}
use Rattle.plain_plan.proofs.profit.changeovers_from.Given as goal

abbrev pub invariant-loop-b : goal.invariant-loop-b
invariant-loop-b l = record {
  value : l.sum ≡ sum_by (changeover l.plant l.plan l.a) (take l.b-index l.plan);
  small : l.sum ≤ l.b-index * 2 ^ 32;
}

use Rattle.std.proofs.Common.{◌≡◌, ◌≤◌, ◌*◌, ◌^◌, sum_by, take}
use Rattle.stn_model.specs.Stock.{taken}
use Rattle.plain_plan.proofs.stock.taken_by_all.Given as goal

abbrev pub invariant-loop-start : goal.invariant-loop-start
invariant-loop-start l = record {
  value : l.sum ≡ sum_by (taken l.plant l.state l.time) (take l.start-index l.plan);
  small : l.sum ≤ l.start-index * 2 ^ 55;
}

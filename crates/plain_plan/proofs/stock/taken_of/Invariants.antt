use Rattle.std.proofs.Common.{◌≡◌, ◌≤◌, ◌*◌, ◌^◌, sum_by, take}
use Rattle.stn_model.specs.Stock.{taken_by}
use Rattle.plain_plan.proofs.stock.taken_of.Given as goal

abbrev pub invariant-loop-input : goal.invariant-loop-input
invariant-loop-input l = record {
  value : l.sum ≡ sum_by (taken_by l.state l.time l.start) (take l.input-index l.inputs);
  small : l.sum ≤ l.input-index * 2 ^ 52;
}

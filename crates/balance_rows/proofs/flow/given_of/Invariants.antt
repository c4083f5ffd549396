use Rattle.std.proofs.Common.{◌≡◌, ◌≤◌, ◌*◌, ◌^◌, sum_by, take}
use Rattle.stn_model.specs.Stock.{given_by}
use Rattle.balance_rows.proofs.flow.given_of.Given as goal

abbrev pub invariant-loop-output : goal.invariant-loop-output
invariant-loop-output l = record {
  value : l.sum ≡ sum_by (given_by l.state l.time l.start) (take l.output-index l.outputs);
  small : l.sum ≤ l.output-index * 2 ^ 20;
}

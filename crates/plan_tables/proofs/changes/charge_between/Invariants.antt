use Rattle.std.proofs.Common.{◌≡◌, ◌≤◌, ◌*◌, ◌^◌, sum_by, take}
use Rattle.stn_model.specs.Profit.{changeover}
use Rattle.plan_tables.proofs.changes.charge_between.Given as goal

abbrev pub invariant-loop-a : goal.invariant-loop-a
invariant-loop-a l = record {
  value : l.sum ≡ sum_by (λ a. changeover l.plant l.batches a l.b) (take l.a-index l.batches);
  small : l.sum ≤ l.a-index * 2 ^ 32;
}

use Rattle.std.proofs.Common.{◌≡◌, ◌≤◌, ◌*◌, ◌^◌, sum_by, take}
use Rattle.plan_tables.specs.Batches.{charge}
use Rattle.plan_tables.proofs.units.charges.Given as goal

abbrev pub invariant-loop-b : goal.invariant-loop-b
invariant-loop-b l = record {
  value : l.sum ≡ sum_by (charge l.plant l.batches) (take l.b-index l.batches);
  small : l.sum ≤ l.b-index * 2 ^ 65;
}

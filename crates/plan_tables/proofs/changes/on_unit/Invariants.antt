use Rattle.std.proofs.Common.{◌≡◌, ◌≤◌, take, vec_len}
use Rattle.plan_tables.specs.Batches.{on_unit}
use Rattle.plan_tables.proofs.changes.on_unit.Given as goal

abbrev pub invariant-loop-start : goal.invariant-loop-start
invariant-loop-start l = record {
  value : l.batches.items ≡ on_unit (take l.start-index l.plan) l.unit;
  few : vec_len l.batches ≤ l.start-index;
}

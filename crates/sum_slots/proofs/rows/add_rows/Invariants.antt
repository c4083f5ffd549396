-- The rows so far and those of the sums that are left are all of them.
use Rattle.std.proofs.Common.{◌≡◌, ◌+◌, ◌++◌, drop}
use Rattle.sum_slots.specs.Larger.{sum_rows}
use Rattle.sum_slots.proofs.rows.add_rows.Given as goal

abbrev pub invariant-loop-sum : goal.invariant-loop-sum
invariant-loop-sum l = record {
  slot : l.slot ≡ l.slots + l.sum-index;
  rows : l.rows ++ sum_rows l.slot (drop l.sum-index l.sums) ≡ l.initial.rows ++ sum_rows l.slots l.sums;
}

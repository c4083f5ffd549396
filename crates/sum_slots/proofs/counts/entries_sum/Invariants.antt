-- The sum so far and the entries that are left sum to the whole, and each entry counts little.
use Rattle.std.proofs.Common.{◌≡◌, ◌*◌, ◌^◌, ◌≤◌, ◌+ℤ◌, unsigned_abs, drop}
use Rattle.row_kit.specs.Row.{entries_sum}
use Rattle.sum_slots.proofs.counts.entries_sum.Given as goal

abbrev pub invariant-loop-entry : goal.invariant-loop-entry
invariant-loop-entry l = record {
  whole : l.sum +ℤ entries_sum (drop l.entry-index l.entries) l.point ≡ entries_sum l.entries l.point;
  small : unsigned_abs l.sum ≤ 2 ^ 32 * l.entry-index;
}

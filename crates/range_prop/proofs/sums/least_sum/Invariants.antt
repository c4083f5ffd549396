-- The sum so far and the least entries that are left give the whole.
use Rattle.std.proofs.Common.{◌≡◌, ◌*◌, ◌^◌, ◌≤◌, ◌+ℤ◌, unsigned_abs, drop}
use Rattle.row_kit.specs.Area.{present}
use Rattle.range_prop.specs.laws.Sums.{least_sum}
use Rattle.range_prop.proofs.sums.least_sum.Given as goal

abbrev pub invariant-loop-entry : goal.invariant-loop-entry
invariant-loop-entry l = record {
  whole : l.sum +ℤ least_sum (drop l.entry-index l.entries) (present l.area) ≡ least_sum l.entries (present l.area);
  small : unsigned_abs l.sum ≤ 2 ^ 32 * l.entry-index;
}

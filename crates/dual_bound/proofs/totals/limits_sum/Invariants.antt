-- What has been added and what is still to add give the whole.
use Rattle.std.proofs.Common.{◌≡◌, ◌*◌, ◌^◌, ◌≤◌, drop, ◌+ℤ◌, unsigned_abs}
use Rattle.dual_bound.specs.Total.{limits_sum}
use Rattle.dual_bound.proofs.totals.limits_sum.Given as goal

abbrev pub invariant-loop-mult : goal.invariant-loop-mult
invariant-loop-mult l = record {
  whole : l.sum +ℤ limits_sum l.rows (drop l.mult-index l.mults) ≡ limits_sum l.rows l.mults;
  small : unsigned_abs l.sum ≤ 2 ^ 80 * l.mult-index;
}

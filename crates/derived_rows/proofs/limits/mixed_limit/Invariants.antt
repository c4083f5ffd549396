-- The sum so far and the factors that are left make the whole.
use Rattle.std.proofs.Common.{◌≡◌, ◌*◌, ◌^◌, ◌≤◌, ◌+ℤ◌, unsigned_abs, drop}
use Rattle.derived_rows.specs.Derived.{mixed_limit}
use Rattle.derived_rows.proofs.limits.mixed_limit.Given as goal

abbrev pub invariant-loop-factor : goal.invariant-loop-factor
invariant-loop-factor l = record {
  whole : l.sum +ℤ mixed_limit l.rows (drop l.factor-index l.factors) ≡ mixed_limit l.rows l.factors;
  small : unsigned_abs l.sum ≤ 2 ^ 71 * l.factor-index;
}

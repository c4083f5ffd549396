-- The sum so far and the groups that are left make the whole.
use Rattle.std.proofs.Common.{◌≡◌, ◌*◌, ◌^◌, ◌≤◌, ◌+ℤ◌, unsigned_abs, drop}
use Rattle.derived_rows.specs.Groups.{shifts_sum}
use Rattle.derived_rows.proofs.limits.shifts_sum.Given as goal

abbrev pub invariant-loop-group : goal.invariant-loop-group
invariant-loop-group l = record {
  whole : l.sum +ℤ shifts_sum (drop l.group-index l.groups) ≡ shifts_sum l.groups;
  small : unsigned_abs l.sum ≤ 2 ^ 40 * l.group-index;
}

-- The sum so far and the groups that are left make the whole.
use Rattle.std.proofs.Common.{◌≡◌, ◌*◌, ◌^◌, ◌≤◌, ◌+ℤ◌, unsigned_abs, drop}
use Rattle.derived_rows.specs.Derived.{round_of}
use Rattle.derived_rows.specs.Groups.{starts_sum}
use Rattle.derived_rows.proofs.limits.starts_sum.Given as goal

abbrev pub invariant-loop-group : goal.invariant-loop-group
invariant-loop-group l = record {
  whole : l.sum +ℤ starts_sum (round_of l.derived) (drop l.group-index l.groups) ≡ starts_sum (round_of l.derived) l.groups;
  small : unsigned_abs l.sum ≤ 2 ^ 41 * l.group-index;
}

-- The sum so far and the terms that are left sum to the whole, and each term counts little.
use Rattle.std.proofs.Common.{◌≡◌, ◌*◌, ◌^◌, ◌≤◌, ◌+ℤ◌, unsigned_abs, drop, map}
use Rattle.sum_slots.specs.Shown.{greatest_sum, turned}
use Rattle.sum_slots.proofs.counts.greatest_sum.Given as goal

abbrev pub invariant-loop-term : goal.invariant-loop-term
invariant-loop-term l = record {
  whole : l.sum +ℤ greatest_sum (map (turned l.turn) (drop l.term-index l.terms)) l.domains ≡ greatest_sum (map (turned l.turn) l.terms) l.domains;
  small : unsigned_abs l.sum ≤ 2 ^ 32 * l.term-index;
}

-- The rest decides, from the least row that may come next.
use Rattle.std.proofs.Common.{◌≡◌, ◌≤◌, ◌^◌, drop}
use Rattle.dual_bound.specs.Total.{are_fit}
use Rattle.dual_bound.proofs.totals.are_fit.Given as goal

abbrev pub invariant-loop-mult : goal.invariant-loop-mult
invariant-loop-mult l = record {
  whole : are_fit l.rows l.least (drop l.mult-index l.mults) ≡ are_fit l.rows 0 l.mults;
  small : l.least ≤ 2 ^ 32;
}

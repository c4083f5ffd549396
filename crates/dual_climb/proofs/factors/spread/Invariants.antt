-- What the rows so far and the factors that are left sum to.
use Rattle.std.proofs.Common.{◌≡◌, ℕ, ◌≤◌, length, drop, true, ℤ, ◌+ℤ◌}
use Rattle.std.specs.List.{All}
use Rattle.dual_bound.specs.Total.{are_fit, IsFitMult}
use Rattle.dual_climb.specs.laws.Sums.{weighted, AreNumbered}
use Rattle.dual_climb.proofs.factors.spread.Given as goal

abbrev pub invariant-loop-number : goal.invariant-loop-number
invariant-loop-number l = record {
  length : length l.all.items ≡ l.number;
  numbered : AreNumbered 0 l.all.items;
  in_range : All (IsFitMult l.rows) l.all.items;
  place : l.place ≤ l.number;
  fit : are_fit l.rows l.number (drop l.place l.mults) ≡ true;
  sums : (worth : ℕ → ℤ) → weighted worth l.all.items +ℤ weighted worth (drop l.place l.mults) ≡ weighted worth l.mults;
}

-- The point, and the values of the sums so far.
use Rattle.std.proofs.Common.{◌≡◌, ◌++◌, map, take, unsigned_abs}
use Rattle.sum_slots.specs.Sum.{sum_value}
use Rattle.sum_slots.proofs.completion.complete.Given as goal

abbrev pub invariant-loop-sum : goal.invariant-loop-sum
invariant-loop-sum l = l.whole ≡ l.point ++ map (λ s. unsigned_abs (sum_value s l.point)) (take l.sum-index l.sums)

-- The tags, and one for each sum so far.
use Rattle.std.proofs.Common.{◌≡◌, ◌++◌, map, take}
use Rattle.sum_slots.specs.Larger.{sum_tag}
use Rattle.sum_slots.proofs.tags.add_tags.Given as goal

abbrev pub invariant-loop-sum : goal.invariant-loop-sum
invariant-loop-sum l = l.tags ≡ l.initial.tags ++ map (λ s. sum_tag l.lane) (take l._sum-index l.sums)

-- The root, and the domains of the sums so far.
use Rattle.std.proofs.Common.{◌≡◌, ◌++◌, map, take}
use Rattle.sum_slots.specs.Larger.{sum_domain}
use Rattle.sum_slots.proofs.larger.larger_root.Given as goal

abbrev pub invariant-loop-sum : goal.invariant-loop-sum
invariant-loop-sum l = l.root ≡ l.program.root ++ map (sum_domain l.program l.ranges) (take l.sum-index l.sums)

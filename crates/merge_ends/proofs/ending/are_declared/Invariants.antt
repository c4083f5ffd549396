-- The sums so far are declared.
use Rattle.std.proofs.Common.{take}
use Rattle.std.specs.List.{All}
use Rattle.sum_slots.specs.Sum.{IsDeclared}
use Rattle.merge_ends.proofs.ending.are_declared.Given as goal

abbrev pub invariant-loop-sum : goal.invariant-loop-sum
invariant-loop-sum l = All (IsDeclared l.slots) (take l.sum-index l.sums)

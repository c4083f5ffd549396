-- The sums so far are shown.
use Rattle.std.proofs.Common.{take}
use Rattle.std.specs.List.{All}
use Rattle.sum_slots.specs.Shown.{IsShown}
use Rattle.log_parts.proofs.completing.are_shown.Given as goal

abbrev pub invariant-loop-sum : goal.invariant-loop-sum
invariant-loop-sum l = All (IsShown l.program l.program.root) (take l.sum-index l.sums)

-- The splits so far are those of the domains so far.
use Rattle.std.proofs.Common.{◌≡◌, take}
use Rattle.std.specs.List.{sum_by}
use Rattle.row_kit.specs.Area.{present}
use Rattle.branch_tree.specs.Splits.{splits_of}
use Rattle.branch_tree.proofs.going_on.splits_in.Given as goal

abbrev pub invariant-loop-slot : goal.invariant-loop-slot
invariant-loop-slot l = l.splits ≡ sum_by splits_of (take l.slot (present l.area))

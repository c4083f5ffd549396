-- The open splits that are left, with the proof so far, hold the items of all with the first one.
use Rattle.std.proofs.Common.{◌++◌, ◌≡◌, length}
use Rattle.proof_tree.specs.Built.{proof_items, splits_items}
use Rattle.proof_tree.proofs.builder.close.Given as goal

abbrev pub invariant-loop-split : goal.invariant-loop-split
invariant-loop-split g l =
    splits_items {R = g.row.R.Denot} {A = g.row.R-Area.Denot} l.splits ++ proof_items l.right
    ≡ splits_items l.initial.splits ++ proof_items l.initial.right

abbrev pub decreases-loop-split : goal.decreases-loop-split
decreases-loop-split g l = length l.splits

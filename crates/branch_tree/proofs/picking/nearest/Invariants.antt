-- The way goes toward the split value, and leaves an advised value only where the domain may not be split there.
use Rattle.std.proofs.Common.{◌≡◌, ◌+◌, ◌-◌}
use Rattle.branch_tree.specs.laws.Picks.{IsAllowed}
use Rattle.branch_tree.proofs.picking.nearest.Given as goal

abbrev pub invariant-loop-value : goal.invariant-loop-value
invariant-loop-value l = IsAllowed l.domain l.advised → l.value ≡ l.advised

abbrev pub decreases-loop-value : goal.decreases-loop-value
decreases-loop-value l = (l.last - l.value) + (l.value - l.last)

-- The splits so far are those of the domains so far.
use Rattle.std.proofs.Common.{◌≡◌, ◌+◌, take}
use Rattle.std.specs.List.{sum_by}
use Rattle.branch_tree.specs.Searched.{spared}
use Rattle.branch_tree.specs.Splits.{splits_of}
use Rattle.branch_tree.proofs.searchable.all_splits.Given as goal

abbrev pub invariant-loop-domain : goal.invariant-loop-domain
invariant-loop-domain l = l.splits ≡ sum_by splits_of (take l.domain-index l.domains) + sum_by spared (take l.domain-index l.domains)

-- The sum so far and the next domain's splits are at most nine for each domain.
use Rattle.std.proofs.Common.{arith, false, get_or}
use Rattle.branch_tree.proofs.Depths.{spared_part}
use Rattle.branch_tree.proofs.searchable.all_splits.Goals as goal

pub overflow_add-splits-in-loop-domain : goal.overflow_add-splits-in-loop-domain
overflow_add-splits-in-loop-domain c =
    let place = c.loop-domain.domain-index in
    let d = get_or c.args.domains.now place (record { zero = false; lo = 0; hi = 0 }) in
    omega (arith, spared_part c.args.domains.now place d c.loop-domain-test.true, c.loop-domain.invariant, c.splits_of.ensures, c.spared.ensures, c.requires)

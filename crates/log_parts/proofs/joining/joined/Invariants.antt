-- The best plan and the greatest cap of the claims so far.
use Rattle.std.proofs.Common.{◌≡◌, ◌++◌, length}
use Rattle.std.specs.Vec.Iter.{into_iter_items, into_iter_len}
use Rattle.log_parts.specs.Joining.{IsBestPlan, IsBestCap}
use Rattle.log_parts.proofs.joining.joined.Given as goal

abbrev pub invariant-loop-claim : goal.invariant-loop-claim
invariant-loop-claim l = IsBestPlan l.yielded l.plan
    × IsBestCap l.yielded l.cap
    × (l.yielded ++ into_iter_items l.claim-iterator ≡ l.fn.claims.items)
    × (into_iter_len l.claim-iterator ≡ length (into_iter_items l.claim-iterator))

-- The first domains, and the others so far.
use Rattle.std.proofs.Common.{◌≡◌, ◌++◌, take}
use Rattle.head_choice.proofs.widening.joined.Given as goal

abbrev pub invariant-loop-domain : goal.invariant-loop-domain
invariant-loop-domain l = l.domains ≡ l.fn.first ++ take l.domain-index l.second

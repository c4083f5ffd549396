-- The first domains, and the others so far.
use Rattle.std.proofs.Common.{◌≡◌, ◌++◌, take}
use Rattle.plant_check.proofs.head.joined.Given as goal

abbrev pub invariant-loop-domain : goal.invariant-loop-domain
invariant-loop-domain l = l.domains ≡ l.first ++ take l.domain-index l.second

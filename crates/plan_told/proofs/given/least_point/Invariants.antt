-- The point so far is that of the domains so far.
use Rattle.std.proofs.Common.{◌≡◌, take}
use Rattle.row_relax.specs.Settle.{only_point}
use Rattle.plan_told.proofs.given.least_point.Given as goal

abbrev pub invariant-loop-domain : goal.invariant-loop-domain
invariant-loop-domain l = l.point ≡ only_point (take l.domain-index l.domains)

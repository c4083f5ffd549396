-- The limits so far are raised.
use Rattle.std.proofs.Common.{◌≡◌, take, map}
use Rattle.what_if.specs.Raised.{raised_limit}
use Rattle.what_if.proofs.raising.raised_limits.Given as goal

abbrev pub invariant-loop-limit : goal.invariant-loop-limit
invariant-loop-limit l = l.raised ≡ map (raised_limit l.amount) (take l.limit-index l.limits)

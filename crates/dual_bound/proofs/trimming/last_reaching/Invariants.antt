-- The last that passes is the last of the values that are left.
use Rattle.std.proofs.Common.{◌≡◌, ◌+◌, ◌-◌}
use Rattle.dual_bound.specs.Trimmed.{last_passing}
use Rattle.dual_bound.specs.laws.Reach.{reaches}
use Rattle.dual_bound.proofs.trimming.last_reaching.Given as goal

abbrev pub invariant-loop-gone : goal.invariant-loop-gone
invariant-loop-gone l =
    last_passing (reaches l.line l.need) (l.hi + 1 - l.lo - l.gone) l.lo ≡ last_passing (reaches l.line l.need) (l.hi + 1 - l.lo) l.lo

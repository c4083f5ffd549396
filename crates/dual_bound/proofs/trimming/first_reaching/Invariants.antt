-- The first that passes is the first of the values that are left.
use Rattle.std.proofs.Common.{◌≡◌, ◌+◌, ◌-◌}
use Rattle.dual_bound.specs.Trimmed.{first_passing}
use Rattle.dual_bound.specs.laws.Reach.{reaches}
use Rattle.dual_bound.proofs.trimming.first_reaching.Given as goal

abbrev pub invariant-loop-value : goal.invariant-loop-value
invariant-loop-value l =
    first_passing (reaches l.line l.need) (l.hi + 1 - l.value) l.value ≡ first_passing (reaches l.line l.need) (l.hi + 1 - l.lo) l.lo

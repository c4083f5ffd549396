use Rattle.std.proofs.Common.{ℕ}
use Rattle.fraction.specs.Fractions.{Reduces}
use Rattle.fraction.proofs.reduce.divisor_of.Given as goal

abbrev pub invariant-loop-low : goal.invariant-loop-low
invariant-loop-low l = (divisor : ℕ) → Reduces l.high l.low divisor → Reduces l.a l.b divisor

abbrev pub decreases-loop-low : goal.decreases-loop-low
decreases-loop-low l = l.low

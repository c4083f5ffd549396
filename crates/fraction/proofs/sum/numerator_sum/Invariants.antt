use Rattle.fraction.proofs.Sums.{IsSumSoFar}
use Rattle.fraction.proofs.sum.numerator_sum.Given as goal

abbrev pub invariant-loop-part : goal.invariant-loop-part
invariant-loop-part l = IsSumSoFar l.whole l.parts l.part-index l.sum

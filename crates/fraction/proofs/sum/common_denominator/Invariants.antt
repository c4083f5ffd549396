use Rattle.fraction.proofs.Sums.{IsProductSoFar}
use Rattle.fraction.proofs.sum.common_denominator.Given as goal

abbrev pub invariant-loop-part : goal.invariant-loop-part
invariant-loop-part l = IsProductSoFar l.parts l.part-index l.whole

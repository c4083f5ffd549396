use Rattle.std.proofs.Common.{arith}
use Rattle.fraction.proofs.Sums.{power_bound}
use Rattle.fraction.proofs.sum.common_denominator.Goals as goal

pub returns-clause-small : goal.returns-clause-small
returns-clause-small c = omega (arith, power_bound c.loop-part.part-index (omega arith), c.loop-part.invariant.small)

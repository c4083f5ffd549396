use Rattle.std.proofs.Common.{arith}
use Rattle.fraction.proofs.LowestTerms.{Reduces-zero, Reduces-rest}
use Rattle.fraction.proofs.reduce.divisor_of.Goals as goal

pub loop-low-preserved : goal.loop-low-preserved
loop-low-preserved c = λ divisor rest.
    c.loop-low.invariant divisor (Reduces-rest c.loop-low.high c.loop-low.low divisor (omega arith) rest)

pub returns : goal.returns
returns c = c.loop-low.invariant c.loop-low.high (Reduces-zero c.loop-low.high c.loop-low.low (omega arith))

-- One place more ascends, or does not.
use Rattle.std.proofs.Common.{arith}
use Rattle.head_choice.proofs.FactorsRise.{falls-at, rises-more}
use Rattle.head_choice.proofs.declaring.factors_ascend.Goals as goal

pub returns-then-factors-place : goal.returns-then-factors-place
returns-then-factors-place c =
    (λ e. absurd (cc), λ ascends. absurd (falls-at c.args.factors.now c.loop-place.place (omega arith) c.loop-place-test.true c.if-factors-place.true ascends))

pub loop-place-preserved : goal.loop-place-preserved
loop-place-preserved c =
    rises-more c.args.factors.now c.loop-place.place c.loop-place.invariant c.loop-place-test.true c.if-factors-place.false

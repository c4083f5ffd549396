-- One number more ascends, or does not.
use Rattle.std.proofs.Common.{arith}
use Rattle.std.proofs.lemmas.Bool.{false≢true}
use Rattle.what_if.proofs.TakenHeads.{ascends-more, descends-at}
use Rattle.what_if.proofs.taking.are_ascending.Goals as goal

pub returns-then-units-place : goal.returns-then-units-place
returns-then-units-place c =
    ((λ wrong. absurd (false≢true wrong)), (λ ascends. absurd (descends-at c.args.units.now c.loop-place.place (omega arith) c.loop-place-test.true c.if-units-place.true ascends)))

pub loop-place-preserved : goal.loop-place-preserved
loop-place-preserved c = ascends-more c.args.units.now c.loop-place.place c.loop-place.invariant c.if-units-place.false

-- One more sum that is declared.
use Rattle.std.proofs.Common.{subst}
use Rattle.std.specs.List.{All}
use Rattle.std.proofs.lemmas.List.{take_all}
use Rattle.std.proofs.lemmas.List.Elements.{All-more}
use Rattle.sum_slots.specs.Sum.{IsDeclared}
use Rattle.merge_ends.proofs.ending.are_declared.Goals as goal

pub loop-sum-preserved : goal.loop-sum-preserved
loop-sum-preserved c =
    let declared = IsDeclared c.args.slots in
    All-more declared c.args.sums.now c.loop-sum.sum-index c.sum-item.result c.loop-sum-test.true c.loop-sum.invariant (subst declared c.sum-item.is (c.is_declared.ensures.0 c.if-not-is_declared.false))

pub returns : goal.returns
returns c = λ is. subst (All (IsDeclared c.args.slots)) (take_all c.loop-sum.sum-index c.args.sums.now c.loop-sum-test.false) c.loop-sum.invariant

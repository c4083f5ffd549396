-- One more sum that is shown.
use Rattle.std.proofs.Common.{List, refl, subst}
use Rattle.row_kit.specs.declared.domain.Domain.{Domain}
use Rattle.std.specs.List.{All}
use Rattle.std.proofs.lemmas.List.{take_all}
use Rattle.std.proofs.lemmas.List.Elements.{All-more}
use Rattle.sum_slots.specs.Shown.{IsShown}
use Rattle.log_parts.proofs.completing.are_shown.Goals as goal

pub loop-sum-preserved : goal.loop-sum-preserved
loop-sum-preserved c =
    let shown = IsShown c.args.program.now c.args.program.now.root in
    All-more shown c.args.sums.now c.loop-sum.sum-index c.sum-item.result c.loop-sum-test.true c.loop-sum.invariant (subst shown c.sum-item.is
    (subst (λ (ranges : List Domain). IsShown c.args.program.now ranges c.sum-item.result) c.as_slice.ensures (c.is_shown.ensures.0 c.if-not-is_shown.false)))

pub returns : goal.returns
returns c = (
  λ is. subst (All (IsShown c.args.program.now c.args.program.now.root)) (take_all c.loop-sum.sum-index c.args.sums.now c.loop-sum-test.false) c.loop-sum.invariant,
  λ all. refl,
)

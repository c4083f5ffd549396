-- The sum at hand is the first that is not shown, or one more that is.
use Rattle.std.proofs.Common.{sym, ap, ◌∙◌, subst}
use Rattle.std.specs.Prelude.{◌+◌, slice_index}
use Rattle.std.specs.List.{All}
use Rattle.std.proofs.lemmas.Bool.{false≢true}
use Rattle.std.proofs.lemmas.List.{take_all}
use Rattle.std.proofs.lemmas.List.Elements.{All-more}
use Rattle.sum_slots.specs.Shown.{IsShown}
use Rattle.plant_check.proofs.FirstBad.{first_bad}
use Rattle.plant_check.proofs.unshown.first_unshown.Goals as goal

pub returns-then-not-is_shown : goal.returns-then-not-is_shown
returns-then-not-is_shown c =
    let inv = c.loop-sum.invariant in
    first_bad c.args.program.now c.args.ranges.now c.args.sums.now c.args.lines.now c.loop-sum.sum-index _ c.sum-item.result
    c.loop-sum-test.true c.requires.lines inv.shown (λ is. false≢true (sym c.if-not-is_shown.true ∙ c.is_shown.ensures.1 is))
    c.sum-item.is (ap (slice_index c.args.lines.now) inv.counted)

pub loop-sum-preserved : goal.loop-sum-preserved
loop-sum-preserved c =
    let inv = c.loop-sum.invariant in
    record {
      counted = ap (λ n. n + 1) inv.counted;
      shown = All-more (IsShown c.args.program.now c.args.ranges.now) c.args.sums.now c.loop-sum.sum-index c.sum-item.result c.loop-sum-test.true inv.shown
          (subst (IsShown c.args.program.now c.args.ranges.now) c.sum-item.is (c.is_shown.ensures.0 c.if-not-is_shown.false));
    }

pub returns : goal.returns
returns c =
    subst (All (IsShown c.args.program.now c.args.ranges.now)) (take_all c.loop-sum.sum-index c.args.sums.now c.loop-sum-test.false) c.loop-sum.invariant.shown

-- One start more: what it costs.
use Rattle.std.proofs.Common.{◌∙◌, ◌+◌, ap, drop, get_or, arith}
use Rattle.std.specs.List.{sum_by}
use Rattle.std.proofs.lemmas.List.Sums.{sum_by-cons}
use Rattle.row_kit.specs.Change.{started, costs_of}
use Rattle.row_kit.proofs.Starts.{started_skip, started_take, no_tag}
use Rattle.row_kit.proofs.changeover.changeovers.Goals as goal
use Rattle.row_kit.proofs.changeover.changeovers.Goals.{then-point-slot-ne0, else-point-slot-ne0}

pub loop-slot-preserved : goal.loop-slot-preserved
loop-slot-preserved c =
    let tags = c.args.tags.now in
    let point = c.args.point.now in
    let changes = c.args.changes.now in
    let slot = c.loop-slot.slot in
    let starts = started tags point in
    let rest = started (drop (slot + 1) tags) (drop (slot + 1) point) in
    elim c.if-point-slot-ne0.branch [
      | then-point-slot-ne0 w ↦
          let tag = get_or tags slot no_tag in
          let e = ap (sum_by (costs_of changes starts)) (started_take tags point slot c.loop-slot-test.true c.requires.same_length w.if-point-slot-ne0.true no_tag) ∙ sum_by-cons (costs_of changes starts) tag rest in
          record {
            whole = omega (arith, w.sum-is, w.costs_of-sum.ensures.cost, e, c.loop-slot.invariant.whole);
            small = omega (arith, w.sum-is, w.costs_of-sum.ensures.small, c.loop-slot.invariant.small);
          }
      | else-point-slot-ne0 w ↦
          let e = ap (sum_by (costs_of changes starts)) (started_skip tags point slot c.loop-slot-test.true c.requires.same_length w.if-point-slot-ne0.false no_tag) in
          record {
            whole = omega (arith, w.sum-is, e, c.loop-slot.invariant.whole);
            small = omega (arith, w.sum-is, c.loop-slot.invariant.small);
          }
    ]

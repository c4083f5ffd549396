-- A slot can be split nine times at most.
use Rattle.std.proofs.Common.{arith}
use Rattle.std.proofs.lemmas.List.Sums.{sum_by-take-le}
use Rattle.row_kit.specs.Area.{present}
use Rattle.branch_tree.specs.Splits.{splits_of}
use Rattle.branch_tree.proofs.Depths.{splits_part, splits_sum}
use Rattle.branch_tree.proofs.going_on.splits_in.Goals as goal

pub overflow_add-splits : goal.overflow_add-splits
overflow_add-splits c =
    let ds = present c.args.area.now in
    let count = c.slot_count-slot-end.ensures.count in
    let last = c.slot_count-slot-end.type_inv in
    let next = splits_part ds c.loop-slot.slot c.domain.result (omega (arith, c.loop-slot-test.true, count)) in
    omega (arith, next, count, last, c.loop-slot.invariant, c.splits_of.ensures, c.from-splits.ensures)

pub returns-clause-few : goal.returns-clause-few
returns-clause-few c =
    let ds = present c.args.area.now in
    let count = c.slot_count-slot-end.ensures.count in
    let last = c.slot_count-slot-end.type_inv in
    omega (arith, c.loop-slot.invariant, sum_by-take-le splits_of ds c.loop-slot.slot, splits_sum ds, count, last)

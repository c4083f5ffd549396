-- Where no slot has two values, each has one.
use Rattle.std.proofs.Common.{◌<◌, ap, arith}
use Rattle.std.proofs.lemmas.List.{get_or_default}
use Rattle.row_kit.specs.Area.{present}
use Rattle.row_kit.specs.Domain.{count_of, domain_at, no_values}
use Rattle.branch_tree.proofs.picking.first_slot.Goals as goal

pub unreachable-requires : goal.unreachable-requires
unreachable-requires c = c.requires.more (λ k d lt.
    let below : k < c.loop-slot.slot = omega (arith, c.slot_count-slot-end.ensures.count, c.loop-slot-test.false) in
    let few : count_of (domain_at (present c.args.area.now) k) < 2 = c.loop-slot.invariant k below in
    let same = ap count_of (get_or_default (present c.args.area.now) k d no_values lt) in
    let some = c.requires.each_open k d lt in
    omega (arith, few, same, some))

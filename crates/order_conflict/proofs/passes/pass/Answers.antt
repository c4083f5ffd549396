-- A pass goes on past a place.
use Rattle.std.proofs.Common.{◌<◌, ◌+◌, Bool, length, sym, subst, arith}
use Rattle.order_conflict.specs.Passes.{IsPassed}
use Rattle.order_conflict.proofs.Passing.{passed_next}
use Rattle.order_conflict.proofs.passes.pass.Goals as goal
use Rattle.order_conflict.proofs.passes.pass.Goals.{then-branch, else-branch}

pub loop-place-preserved : goal.loop-place-preserved
loop-place-preserved g c =
    let plant = c.args.plant.now in
    let old = c.args.marks.now.items in
    let new = c.settle.new.marks.items in
    let each = c.loop-place.invariant.each in
    let within : c.loop-place.place < length c.loop-place.marks.items = omega arith in
    let next = passed_next plant c.args.budget old c.loop-place.marks.items new c.loop-place.changed c.loop-place.place c.in_ok-settle.field-0 within c.loop-place.invariant c.in_ok-settle.ensures in
    elim c.if-branch.branch [
      | then-branch w ↦ subst (λ (b : Bool). IsPassed plant c.args.budget old new b (c.loop-place.place + 1)) (sym w.changed-is) (rw w.if-branch.true at next)
      | else-branch w ↦ subst (λ (b : Bool). IsPassed plant c.args.budget old new b (c.loop-place.place + 1)) (sym w.changed-is) (rw w.if-branch.false at next)
    ]

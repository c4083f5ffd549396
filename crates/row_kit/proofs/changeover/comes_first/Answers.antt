-- One start more, which does not come before this one.
use Rattle.std.proofs.Common.{Bool, ◌∙◌, ◌+◌, not, ◌||◌, List, ap, sym, drop}
use Rattle.std.specs.List.{list_any}
use Rattle.row_kit.specs.declared.row.Tag.{Tag}
use Rattle.row_kit.specs.Change.{started, is_after, comes_first}
use Rattle.row_kit.proofs.Starts.{started_skip, started_take, no_tag}
use Rattle.row_kit.proofs.changeover.comes_first.Goals as goal
use Rattle.row_kit.proofs.changeover.comes_first.Goals.{else-point-slot-ne0-via-then-point-slot-ne0+else-is_after, else-point-slot-ne0-via-else-point-slot-ne0}

pub loop-slot-preserved : goal.loop-slot-preserved
loop-slot-preserved c =
    let tags = c.args.tags.now in
    let point = c.args.point.now in
    let start = c.args.start.now in
    let slot = c.loop-slot.slot in
    let rest = started (drop (slot + 1) tags) (drop (slot + 1) point) in
    let first = λ (starts : List Tag). comes_first starts start in
    elim c.else-point-slot-ne0.branch [
      | else-point-slot-ne0-via-then-point-slot-ne0+else-is_after w ↦
          let e = ap first (started_take tags point slot c.loop-slot-test.true c.requires w.if-point-slot-ne0.true no_tag) in
          let is = sym w.is_after.ensures ∙ w.if-is_after.false in
          sym (e ∙ ap (λ (t : Bool). not (t || list_any (λ a. is_after a start) rest)) is) ∙ c.loop-slot.invariant
      | else-point-slot-ne0-via-else-point-slot-ne0 w ↦
          sym (ap first (started_skip tags point slot c.loop-slot-test.true c.requires w.if-point-slot-ne0.false no_tag)) ∙ c.loop-slot.invariant
    ]

-- One start more: its place is taken where it is the least so far.
use Rattle.std.proofs.Common.{◌≤◌, ℕ, ◌∙◌, ◌+◌, List, ap, sym, subst, min, drop, get_or, arith}
use Rattle.row_kit.specs.declared.row.Tag.{Tag}
use Rattle.row_kit.specs.Change.{started, is_after}
use Rattle.row_kit.specs.laws.Next.{least_after}
use Rattle.row_kit.proofs.Starts.{started_skip, started_take, least_after-le, least_moves, least_small, no_tag}
use Rattle.row_kit.proofs.changeover.next_place.Goals as goal
use Rattle.row_kit.proofs.changeover.next_place.Goals.{then-point-slot-ne0, else-point-slot-ne0}

pub loop-slot-init : goal.loop-slot-init
loop-slot-init c = record {
  whole = omega (arith, least_after-le (started c.args.tags.now c.args.point.now) c.args.start.now);
  small = omega arith;
}

pub loop-slot-preserved : goal.loop-slot-preserved
loop-slot-preserved c =
    let tags = c.args.tags.now in
    let point = c.args.point.now in
    let start = c.args.start.now in
    let slot = c.loop-slot.slot in
    let rest = least_after (started (drop (slot + 1) tags) (drop (slot + 1) point)) start in
    let least = λ (ts : List Tag). least_after ts start in
    elim c.if-point-slot-ne0.branch [
      | then-point-slot-ne0 w ↦
          let tag = get_or tags slot no_tag in
          let e = ap least (started_take tags point slot c.loop-slot-test.true c.requires w.if-point-slot-ne0.true no_tag) in
          let is = w.next-is ∙ w.lesser_place-next.ensures in
          record {
            whole = ap (λ (n : ℕ). min n rest) is ∙ least_moves (is_after start tag) tag.place c.loop-slot.next rest ∙ ap (min c.loop-slot.next) (sym e) ∙ c.loop-slot.invariant.whole;
            small = subst (λ (n : ℕ). n ≤ 4294967296) (sym is) (least_small (is_after start tag) tag.place c.loop-slot.next c.loop-slot.invariant.small);
          }
      | else-point-slot-ne0 w ↦
          let e = ap least (started_skip tags point slot c.loop-slot-test.true c.requires w.if-point-slot-ne0.false no_tag) in
          record {
            whole = ap (λ (n : ℕ). min n rest) w.next-is ∙ ap (min c.loop-slot.next) (sym e) ∙ c.loop-slot.invariant.whole;
            small = omega (arith, w.next-is, c.loop-slot.invariant.small);
          }
    ]

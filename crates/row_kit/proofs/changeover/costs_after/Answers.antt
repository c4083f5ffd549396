-- One start more: it costs something where its place is the next one.
use Rattle.std.proofs.Common.{◌≡◌, ℕ, ◌∙◌, ◌+◌, ◌&&◌, List, ap, sym, cond, leb, drop, get_or, length, arith}
use Rattle.std.specs.List.{sum_by}
use Rattle.std.proofs.lemmas.List.{nil_from_length}
use Rattle.std.proofs.lemmas.List.Sums.{sum_by-cons}
use Rattle.std.proofs.lemmas.Bool.{eqb-true}
use Rattle.row_kit.specs.declared.row.Change.{Change}
use Rattle.row_kit.specs.Change.{started, is_after, listed_cost, pair_cost, costs_after}
use Rattle.row_kit.proofs.Starts.{started_skip, started_take, pair_cost_is, nothing_listed, no_tag}
use Rattle.row_kit.proofs.changeover.costs_after.Goals as goal
use Rattle.row_kit.proofs.changeover.costs_after.Goals.{then-point-slot-ne0, else-point-slot-ne0}

pub returns-then-is_empty-clause-cost : goal.returns-then-is_empty-clause-cost
returns-then-is_empty-clause-cost c =
    let starts = started c.args.tags.now c.args.point.now in
    let none : length c.args.changes.now ≡ 0 = eqb-true (length c.args.changes.now) 0 (sym c.is_empty.ensures ∙ c.if-is_empty.true) in
    sym (ap (λ (cs : List Change). costs_after cs starts c.args.start.now) (nil_from_length c.args.changes.now none) ∙ nothing_listed starts c.args.start.now)

pub loop-slot-preserved : goal.loop-slot-preserved
loop-slot-preserved c =
    let tags = c.args.tags.now in
    let point = c.args.point.now in
    let start = c.args.start.now in
    let changes = c.args.changes.now in
    let slot = c.loop-slot.slot in
    let starts = started tags point in
    let rest = started (drop (slot + 1) tags) (drop (slot + 1) point) in
    elim c.if-point-slot-ne0.branch [
      | then-point-slot-ne0 w ↦
          let tag = get_or tags slot no_tag in
          let e = ap (sum_by (pair_cost changes starts start)) (started_take tags point slot c.loop-slot-test.true c.requires.same_length w.if-point-slot-ne0.true no_tag) ∙ sum_by-cons (pair_cost changes starts start) tag rest in
          let cost = pair_cost_is changes starts start tag (omega (arith, w.cost_within-sum.ensures.place)) in
          let is : w.cost_within-sum.result ≡ pair_cost changes starts start tag =
          w.cost_within-sum.ensures.cost
          ∙ ap (λ (n : ℕ). cond (is_after start tag && leb tag.place n) (listed_cost changes start.lane start.kind tag.kind) 0) c.next_place-next.ensures
          ∙ sym cost in
          record {
            whole = omega (arith, w.sum-is, is, e, c.loop-slot.invariant.whole);
            small = omega (arith, w.sum-is, w.cost_within-sum.ensures.small, c.loop-slot.invariant.small);
          }
      | else-point-slot-ne0 w ↦
          let e = ap (sum_by (pair_cost changes starts start)) (started_skip tags point slot c.loop-slot-test.true c.requires.same_length w.if-point-slot-ne0.false no_tag) in
          record {
            whole = omega (arith, w.sum-is, e, c.loop-slot.invariant.whole);
            small = omega (arith, w.sum-is, c.loop-slot.invariant.small);
          }
    ]

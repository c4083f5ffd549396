-- One more row is kept, and at the end they all are.
use Rattle.std.proofs.Common.{◌∙◌, ◌≤ℤ◌, List, ap, subst, refl, arith}
use Rattle.std.specs.List.{All}
use Rattle.std.proofs.lemmas.Int.{ints}
use Rattle.std.proofs.lemmas.List.{take_all}
use Rattle.std.proofs.lemmas.List.Elements.{All-more}
use Rattle.row_kit.specs.declared.row.Entry.{Entry}
use Rattle.row_kit.specs.Row.{entries_sum, IsKept}
use Rattle.row_kit.proofs.point.keeps_rows.Goals as goal

pub loop-row-preserved : goal.loop-row-preserved
loop-row-preserved c =
    let point = c.args.point.now in
    let row = c.row-item.result in
    let sum = c.entries_sum.ensures.value ∙ ap (λ (es : List Entry). entries_sum es point) c.as_slice.ensures in
    let low : c.entries_sum.result ≤ℤ row.limit = grind (arith, ints) in
    let kept : IsKept point row = rw (← sum) low in
    All-more (IsKept point) c.as_slice-row-items.result.now c.loop-row.row-index row c.loop-row-test.true c.loop-row.invariant
    (subst (IsKept point) c.row-item.is kept)

pub returns : goal.returns
returns c =
    let point = c.args.point.now in
    let items = c.as_slice-row-items.result.now in
    let whole = take_all c.loop-row.row-index items c.loop-row-test.false in
    (λ _. subst (All (IsKept point)) (whole ∙ c.as_slice-row-items.ensures) c.loop-row.invariant, λ _. refl)

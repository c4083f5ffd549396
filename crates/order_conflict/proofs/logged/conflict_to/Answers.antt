-- Nothing stays unproved before the log is written; then the log of the deliveries that are left, whole or begun.
use Rattle.std.proofs.Common.{◌≡◌, ap, sym, subst, ◌∙◌}
use Rattle.std.proofs.lemmas.Result.{err_from_is_err_and}
use Rattle.order_text.specs.Marks.{left_of}
use Rattle.fewer_orders.specs.Alone.{alone}
use Rattle.order_conflict.specs.declared.answer.ConflictAnswer.{ConflictAnswer}
use Rattle.order_conflict.specs.Conflict.{left_plant, IsConflict}
use Rattle.order_conflict.specs.Logged.{proved, IsLogOf}
use Rattle.order_conflict.proofs.Proving.{left_begun, proved_log}
use Rattle.order_conflict.proofs.logged.conflict_to.Goals as goal

pub returns-in-Unproved-clause-log : goal.returns-in-Unproved-clause-log
returns-in-Unproved-clause-log g c = absurd (subst (IsConflict c.args.plant.now c.args.budget) c.in-Unproved.is c.in_ok-said.ensures)

pub returns-in_err-answer-clause-err : goal.returns-in_err-answer-clause-err
returns-in_err-answer-clause-err g c =
    let p = err_from_is_err_and c.from_residual-in_err-answer.result c.from_residual-in_err-answer.ensures.1 in
    let right = subst (IsConflict c.args.plant.now c.args.budget) c.in-Among.is c.in_ok-said.ensures in
    let plant_is : c.in_ok-fewer.fewer ≡ left_plant c.args.plant.now c.in-Among.marks.items =
    c.in_ok-fewer.ensures.alone ∙ ap (alone c.args.plant.now) (c.as_slice-2.ensures.value ∙ c.in_ok-kept.ensures ∙ ap left_of c.as_slice.ensures.value) in
    rw p.1 (left_begun c.args.plant.now c.in_ok-fewer.fewer c.args.budget c.in-Among.marks.items c.args.name.now (g.F.Shelf.files c.args.files.now) (g.F.Shelf.files c.solve_to.new.files) plant_is right.1 c.in_err-answer.ensures.err)

pub returns-clause-log : goal.returns-clause-log
returns-clause-log g c =
    let outcome = c.in_ok-answer.field-0 in
    let marks = c.in-Among.marks in
    let plant_is : c.in_ok-fewer.fewer ≡ left_plant c.args.plant.now marks.items =
    c.in_ok-fewer.ensures.alone ∙ ap (alone c.args.plant.now) (c.as_slice-2.ensures.value ∙ c.in_ok-kept.ensures ∙ ap left_of c.as_slice.ensures.value) in
    let right = subst (IsConflict c.args.plant.now c.args.budget) c.in-Among.is c.in_ok-said.ensures in
    let log = proved_log c.args.plant.now c.in_ok-fewer.fewer c.args.budget outcome.boxes marks c.args.name.now (g.F.Shelf.files c.args.files.now) (g.F.Shelf.files c.solve_to.new.files) outcome.answer plant_is
    right c.in_ok-answer.ensures.outcome c.in_ok-answer.ensures.proof in
    subst (λ (said : ConflictAnswer). IsLogOf c.args.plant.now c.args.budget c.args.name.now (g.F.Shelf.files c.args.files.now) (g.F.Shelf.files c.solve_to.new.files) said)
    (sym c.proved.ensures) log

use Rattle.std.specs.Prelude.{[]}
use Rattle.std.proofs.lemmas.Result.{err_from_is_err_and}
use Rattle.command_replies.proofs.AnswerLemmas.{plant_refused, plant_answer}
use Rattle.conflict_commands.specs.Finding.{Found}
use Rattle.conflict_commands.proofs.Conflicts.{printable}
use Rattle.conflict_commands.proofs.finding.find_file.Goals as goal

pub returns-in_err-plant-clause-answer : goal.returns-in_err-plant-clause-answer
returns-in_err-plant-clause-answer g c =
    let p = err_from_is_err_and c.from_residual.result c.from_residual.ensures.1 in
    rw (p.1, p.2) (plant_refused (g.F.Shelf.files c.args.files.now) (g.F.Shelf.files c.plant_in.new.files) c.args.name.now [] (λ _. Found c.args.budget.boxes) c.in_err-plant.field-0.0 c.in_err-plant.ensures.same c.in_err-plant.ensures.refused)

pub reply_of-requires-clause-printable : goal.reply_of-requires-clause-printable
reply_of-requires-clause-printable g c = printable c.in_ok-plant.plant c.args.budget.boxes c.in_ok-said.said c.in_ok-plant.ensures.sound c.in_ok-said.ensures

pub returns-clause-answer : goal.returns-clause-answer
returns-clause-answer g c =
    let reply = c.in_ok-reply_of.field-0 in
    let right : Found c.args.budget.boxes c.in_ok-plant.plant reply.status reply.text.items =
    record { said = c.in_ok-said.said; right = c.in_ok-said.ensures; status_is = c.in_ok-reply_of.ensures.0; text_is = c.in_ok-reply_of.ensures.1 } in
    plant_answer (g.F.Shelf.files c.args.files.now) (g.F.Shelf.files c.plant_in.new.files) c.args.name.now [] (λ _. Found c.args.budget.boxes) c.in_ok-plant.plant
    c.in_ok-plant.ensures.read reply.status reply.text.items right (λ _. c.in_ok-plant.ensures.same)

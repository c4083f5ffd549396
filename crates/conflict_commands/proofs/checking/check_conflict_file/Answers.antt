use Rattle.std.specs.Prelude.{◌≡◌, ◌∷◌, []}
use Rattle.std.proofs.lemmas.Result.{err_from_is_err_and}
use Rattle.proof_log.specs.LogNames.{log_name}
use Rattle.command_replies.specs.Answers.{IsPlantAnswer}
use Rattle.command_replies.proofs.AnswerLemmas.{plant_refused, plant_answer, replied_if}
use Rattle.conflict_commands.specs.Checking.{ConflictChecked}
use Rattle.conflict_commands.proofs.checking.check_conflict_file.Goals as goal

pub returns-in_err-plant-clause-answer : goal.returns-in_err-plant-clause-answer
returns-in_err-plant-clause-answer g c =
    let p = err_from_is_err_and c.from_residual.result c.from_residual.ensures.1 in
    rw (p.1, p.2) (plant_refused (g.F.Shelf.files c.args.files.now) (g.F.Shelf.files c.plant_in.new.files) c.args.plant.now (log_name c.args.stem.now 0 ∷ log_name c.args.stem.now 1 ∷ []) (λ _. ConflictChecked (g.F.Shelf.files c.args.files.now) c.args.stem.now) c.in_err-plant.field-0.0 c.in_err-plant.ensures.same c.in_err-plant.ensures.refused)

pub returns-clause-answer : goal.returns-clause-answer
returns-clause-answer g c =
    let old = g.F.Shelf.files c.args.files.now in
    let new = g.F.Shelf.files c.check_plant.new.files in
    let names = log_name c.args.stem.now 0 ∷ log_name c.args.stem.now 1 ∷ [] in
    let plant = c.in_ok-plant.plant in
    let same : new ≡ old = cc in
    replied_if c.check_plant.result (λ reply. ConflictChecked old c.args.stem.now plant reply.status reply.text.items)
    (λ reply. IsPlantAnswer old new c.args.plant.now names (λ _. ConflictChecked old c.args.stem.now) reply.status reply.text.items)
    (λ reply is. plant_answer old new c.args.plant.now names (λ _. ConflictChecked old c.args.stem.now) plant c.in_ok-plant.ensures.read reply.status reply.text.items is (λ _. same))
    (let e = c.in_ok-plant.ensures.same in rw e at c.check_plant.ensures.answer) c.check_plant.ensures.none

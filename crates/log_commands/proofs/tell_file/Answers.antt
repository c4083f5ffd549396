use Rattle.std.specs.Prelude.{◌≡◌, [], ◌∷◌}
use Rattle.std.specs.Option.{option_map}
use Rattle.std.proofs.lemmas.Result.{err_from_is_err_and}
use Rattle.stn_edge.specs.Files.{file_of}
use Rattle.command_replies.specs.declared.reply.Reply.{Reply}
use Rattle.command_replies.specs.Answers.{IsPlantAnswer}
use Rattle.command_replies.proofs.AnswerLemmas.{plant_refused, plant_answer, replied_if}
use Rattle.log_commands.specs.Telling.{LogTold}
use Rattle.log_commands.proofs.tell_file.Goals as goal

pub returns-in_err-plant-clause-answer : goal.returns-in_err-plant-clause-answer
returns-in_err-plant-clause-answer g c =
    let p = err_from_is_err_and c.from_residual.result c.from_residual.ensures.1 in
    rw (p.1, p.2) (plant_refused (g.F.Shelf.files c.args.files.now) (g.F.Shelf.files c.plant_in.new.files) c.args.plant.now (c.args.log.now ∷ []) (λ _. LogTold c.args.usage (option_map (λ m. file_of m c.args.log.now) (g.F.Shelf.files c.args.files.now))) c.in_err-plant.field-0.0 c.in_err-plant.ensures.same c.in_err-plant.ensures.refused)

pub returns-clause-answer : goal.returns-clause-answer
returns-clause-answer g c =
    let old = g.F.Shelf.files c.args.files.now in
    let new = g.F.Shelf.files c.tell_log.new.files in
    let names = c.args.log.now ∷ [] in
    let plant = c.in_ok-plant.plant in
    let told = option_map (λ m. file_of m c.args.log.now) old in
    let same : new ≡ old = cc in
    replied_if c.tell_log.result (λ reply. LogTold c.args.usage told plant reply.status reply.text.items) (λ reply. IsPlantAnswer old new c.args.plant.now names (λ _. LogTold c.args.usage told) reply.status reply.text.items)
    (λ reply is. plant_answer old new c.args.plant.now names (λ _. LogTold c.args.usage told) plant c.in_ok-plant.ensures.read reply.status reply.text.items is (λ _. same))
    (let e = c.in_ok-plant.ensures.same in rw e at c.tell_log.ensures.answer) c.tell_log.ensures.none

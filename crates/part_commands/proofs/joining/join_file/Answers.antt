use Rattle.std.proofs.Common.{◌≡◌, inl, inr}
use Rattle.std.proofs.lemmas.Result.{err_from_is_err_and}
use Rattle.command_replies.specs.declared.reply.Reply.{Reply}
use Rattle.answer_texts.specs.Levels.{OnLevels}
use Rattle.part_commands.specs.JoiningParts.{part_names, JoinAnswered}
use Rattle.command_replies.specs.Answers.{IsPlantAnswer, IsUnwritten}
use Rattle.command_replies.proofs.AnswerLemmas.{of_refusal, plant_answer, plant_refused, replied, replied_by}
use Rattle.command_replies.proofs.FileLemmas.{stay_same}
use Rattle.part_commands.proofs.joining.join_file.Goals as goal

pub returns-in_err-plant-clause-answer : goal.returns-in_err-plant-clause-answer
returns-in_err-plant-clause-answer g c =
    let p = err_from_is_err_and c.from_residual.result c.from_residual.ensures.1 in
    rw (p.1, p.2) (plant_refused (g.F.Shelf.files c.args.files.now) (g.F.Shelf.files c.plant_in.new.files) c.args.name.now (part_names c.args.stem.now c.args.levels.number)
    (λ _ plant. OnLevels plant c.args.levels.number (JoinAnswered (g.F.Shelf.files c.args.files.now) (g.F.Shelf.files c.plant_in.new.files) c.args.levels.number c.args.stem.now c.args.log.now plant)) c.in_err-plant.field-0.0 c.in_err-plant.ensures.same c.in_err-plant.ensures.refused)

pub returns-in_err-plant-clause-refused : goal.returns-in_err-plant-clause-refused
returns-in_err-plant-clause-refused g c =
    let unwritten : Reply → Type 0 = λ reply. IsUnwritten reply.status → g.F.Shelf.files c.plant_in.new.files ≡ g.F.Shelf.files c.args.files.now in
    replied c.from_residual.result unwritten (λ reply _. c.in_err-plant.ensures.same)

pub returns-in_err-plant-clause-left : goal.returns-in_err-plant-clause-left
returns-in_err-plant-clause-left g c = inl c.in_err-plant.ensures.same

pub returns-in_err-plant-clause-others : goal.returns-in_err-plant-clause-others
returns-in_err-plant-clause-others g c = stay_same c.args.log.now (g.F.Shelf.files c.args.files.now) (g.F.Shelf.files c.plant_in.new.files) c.in_err-plant.ensures.same

pub returns-clause-answer : goal.returns-clause-answer
returns-clause-answer g c =
    let old = g.F.Shelf.files c.args.files.now in
    let new = g.F.Shelf.files c.join_parts.new.files in
    let plant = c.in_ok-plant.plant in
    let same = c.in_ok-plant.ensures.same in
    let levels = c.args.levels.number in
    let stem = c.args.stem.now in
    let log = c.args.log.now in
    replied_by c.join_parts.result (λ reply. OnLevels plant levels (JoinAnswered old new levels stem log plant) reply.status reply.text.items) (λ reply. IsUnwritten reply.status → new ≡ old)
    (λ reply. IsPlantAnswer old new c.args.name.now (part_names stem levels) (λ _ p. OnLevels p levels (JoinAnswered old new levels stem log p)) reply.status reply.text.items)
    (λ reply is unwritten. plant_answer old new c.args.name.now (part_names stem levels) (λ _ p. OnLevels p levels (JoinAnswered old new levels stem log p)) plant c.in_ok-plant.ensures.read reply.status reply.text.items is
    (λ refused. unwritten (of_refusal reply.status refused)))
    (rw same at c.join_parts.ensures.answer) (rw same at c.join_parts.ensures.refused) c.join_parts.ensures.none

pub returns-clause-refused : goal.returns-clause-refused
returns-clause-refused g c =
    let same = c.in_ok-plant.ensures.same in
    let unwritten : Reply → Type 0 = λ reply. IsUnwritten reply.status → g.F.Shelf.files c.join_parts.new.files ≡ g.F.Shelf.files c.args.files.now in
    let is = rw same at c.join_parts.ensures.refused in
    replied_by c.join_parts.result unwritten unwritten unwritten (λ reply said _. said) is is c.join_parts.ensures.none

pub returns-clause-begun : goal.returns-clause-begun
returns-clause-begun g c = λ fault.
    let same = c.in_ok-plant.ensures.same in
    let valid = rw same at c.join_parts.ensures.begun fault in
    (c.in_ok-plant.plant, (c.in_ok-plant.ensures.read, valid.0, valid.1))

pub returns-clause-left : goal.returns-clause-left
returns-clause-left g c =
    let same = c.in_ok-plant.ensures.same in
    inr (record { plant = c.in_ok-plant.plant; read = c.in_ok-plant.ensures.read; holds = rw same at c.join_parts.ensures.left })

pub returns-clause-others : goal.returns-clause-others
returns-clause-others g c = let same = c.in_ok-plant.ensures.same in rw same at c.join_parts.ensures.others

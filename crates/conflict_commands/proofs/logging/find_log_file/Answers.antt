use Rattle.std.proofs.Common.{◌≡◌, [], inl, inr}
use Rattle.std.proofs.lemmas.Result.{err_from_is_err_and}
use Rattle.command_replies.specs.declared.reply.Reply.{Reply}
use Rattle.command_replies.specs.Answers.{IsPlantAnswer, IsUnwritten}
use Rattle.command_replies.proofs.AnswerLemmas.{of_refusal, plant_answer, plant_refused, replied, replied_if}
use Rattle.conflict_commands.specs.Logging.{FoundWithLog}
use Rattle.conflict_commands.proofs.Conflicts.{found-status, pair_same}
use Rattle.conflict_commands.proofs.logging.find_log_file.Goals as goal

pub returns-in_err-plant-clause-answer : goal.returns-in_err-plant-clause-answer
returns-in_err-plant-clause-answer g c =
    let old = g.F.Shelf.files c.args.files.now in
    let new = g.F.Shelf.files c.plant_in.new.files in
    let p = err_from_is_err_and c.from_residual.result c.from_residual.ensures.1 in
    rw (p.1, p.2) (plant_refused old new c.args.name.now [] (λ _. FoundWithLog c.args.budget.boxes c.args.stem.now old new) c.in_err-plant.field-0.0 c.in_err-plant.ensures.same c.in_err-plant.ensures.refused)

pub returns-in_err-plant-clause-refused : goal.returns-in_err-plant-clause-refused
returns-in_err-plant-clause-refused g c =
    let unwritten : Reply → Type 0 = λ reply. IsUnwritten reply.status → g.F.Shelf.files c.plant_in.new.files ≡ g.F.Shelf.files c.args.files.now in
    replied c.from_residual.result unwritten (λ reply _. c.in_err-plant.ensures.same)

pub returns-in_err-plant-clause-left : goal.returns-in_err-plant-clause-left
returns-in_err-plant-clause-left g c = inl c.in_err-plant.ensures.same

pub returns-in_err-plant-clause-others : goal.returns-in_err-plant-clause-others
returns-in_err-plant-clause-others g c = pair_same c.args.stem.now (g.F.Shelf.files c.args.files.now) (g.F.Shelf.files c.plant_in.new.files) c.in_err-plant.ensures.same

pub returns-clause-answer : goal.returns-clause-answer
returns-clause-answer g c =
    let old = g.F.Shelf.files c.args.files.now in
    let new = g.F.Shelf.files c.find_log_plant.new.files in
    let same = c.in_ok-plant.ensures.same in
    let plant = c.in_ok-plant.plant in
    replied_if c.find_log_plant.result (λ reply. FoundWithLog c.args.budget.boxes c.args.stem.now old new plant reply.status reply.text.items)
    (λ reply. IsPlantAnswer old new c.args.name.now [] (λ _. FoundWithLog c.args.budget.boxes c.args.stem.now old new) reply.status reply.text.items)
    (λ reply is. plant_answer old new c.args.name.now [] (λ _. FoundWithLog c.args.budget.boxes c.args.stem.now old new) plant c.in_ok-plant.ensures.read reply.status reply.text.items is
    (λ refused. absurd (found-status is.said reply.status is.status_is (of_refusal reply.status refused))))
    (rw same at c.find_log_plant.ensures.answer) c.find_log_plant.ensures.none

pub returns-clause-refused : goal.returns-clause-refused
returns-clause-refused g c =
    let old = g.F.Shelf.files c.args.files.now in
    let new = g.F.Shelf.files c.find_log_plant.new.files in
    let same = c.in_ok-plant.ensures.same in
    let plant = c.in_ok-plant.plant in
    replied_if c.find_log_plant.result (λ reply. FoundWithLog c.args.budget.boxes c.args.stem.now old new plant reply.status reply.text.items) (λ reply. IsUnwritten reply.status → new ≡ old)
    (λ reply is none. absurd (found-status is.said reply.status is.status_is none))
    (rw same at c.find_log_plant.ensures.answer) c.find_log_plant.ensures.none

pub returns-clause-begun : goal.returns-clause-begun
returns-clause-begun g c = λ _. (c.in_ok-plant.plant, c.in_ok-plant.ensures.read)

pub returns-clause-left : goal.returns-clause-left
returns-clause-left g c =
    let same = c.in_ok-plant.ensures.same in
    inr (record { plant = c.in_ok-plant.plant; read = c.in_ok-plant.ensures.read; left = rw same at c.find_log_plant.ensures.left })

pub returns-clause-others : goal.returns-clause-others
returns-clause-others g c = let same = c.in_ok-plant.ensures.same in rw same at c.find_log_plant.ensures.others

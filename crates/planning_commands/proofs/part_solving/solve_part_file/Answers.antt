use Rattle.std.proofs.Common.{◌≡◌, [], inl, inr}
use Rattle.std.proofs.lemmas.Result.{err_from_is_err_and}
use Rattle.command_replies.specs.declared.reply.Reply.{Reply}
use Rattle.answer_texts.specs.Levels.{OnLevels}
use Rattle.planning_commands.specs.PartSolving.{PartSolved}
use Rattle.command_replies.specs.Answers.{IsPlantAnswer, IsUnwritten}
use Rattle.plan_told.specs.Proofs.{bytes_in}
use Rattle.command_replies.proofs.AnswerLemmas.{of_refusal, plant_answer, plant_refused, replied, replied_by}
use Rattle.command_replies.proofs.FileLemmas.{stay_same}
use Rattle.planning_commands.proofs.part_solving.solve_part_file.Goals as goal

pub returns-in_err-plant-clause-answer : goal.returns-in_err-plant-clause-answer
returns-in_err-plant-clause-answer g c =
    let p = err_from_is_err_and c.from_residual.result c.from_residual.ensures.1 in
    rw (p.1, p.2) (plant_refused (g.F.Shelf.files c.args.files.now) (g.F.Shelf.files c.plant_in.new.files) c.args.name.now []
    (λ _ plant. OnLevels plant c.args.part.levels.number (PartSolved c.args.budget.boxes plant c.args.part.levels.number c.args.part.number (bytes_in c.args.log.now (g.F.Shelf.files c.plant_in.new.files)))) c.in_err-plant.field-0.0 c.in_err-plant.ensures.same c.in_err-plant.ensures.refused)

pub returns-in_err-plant-clause-refused : goal.returns-in_err-plant-clause-refused
returns-in_err-plant-clause-refused g c =
    let unwritten : Reply → Type 0 = λ reply. IsUnwritten reply.status → g.F.Shelf.files c.plant_in.new.files ≡ g.F.Shelf.files c.args.files.now in
    replied c.from_residual.result unwritten (λ reply _. c.in_err-plant.ensures.same)

pub returns-in_err-plant-clause-left : goal.returns-in_err-plant-clause-left
returns-in_err-plant-clause-left g c = inl c.in_err-plant.ensures.same

pub returns-in_err-plant-clause-others : goal.returns-in_err-plant-clause-others
returns-in_err-plant-clause-others g c = stay_same c.args.log.now (g.F.Shelf.files c.args.files.now) (g.F.Shelf.files c.plant_in.new.files) c.in_err-plant.ensures.same

pub returns-clause-answer : goal.returns-clause-answer
returns-clause-answer g c =
    let old = g.F.Shelf.files c.args.files.now in
    let new = g.F.Shelf.files c.solve_part.new.files in
    let plant = c.in_ok-plant.plant in
    let same = c.in_ok-plant.ensures.same in
    let levels = c.args.part.levels.number in
    let part = c.args.part.number in
    let budget = c.args.budget.boxes in
    let log = c.args.log.now in
    replied_by c.solve_part.result (λ reply. OnLevels plant levels (PartSolved budget plant levels part (bytes_in log new)) reply.status reply.text.items) (λ reply. IsUnwritten reply.status → new ≡ old)
    (λ reply. IsPlantAnswer old new c.args.name.now [] (λ _ p. OnLevels p levels (PartSolved budget p levels part (bytes_in log new))) reply.status reply.text.items)
    (λ reply is unwritten. plant_answer old new c.args.name.now [] (λ _ p. OnLevels p levels (PartSolved budget p levels part (bytes_in log new))) plant c.in_ok-plant.ensures.read reply.status reply.text.items is
    (λ refused. unwritten (of_refusal reply.status refused)))
    c.solve_part.ensures.answer (rw same at c.solve_part.ensures.refused) c.solve_part.ensures.none

pub returns-clause-refused : goal.returns-clause-refused
returns-clause-refused g c =
    let same = c.in_ok-plant.ensures.same in
    let unwritten : Reply → Type 0 = λ reply. IsUnwritten reply.status → g.F.Shelf.files c.solve_part.new.files ≡ g.F.Shelf.files c.args.files.now in
    let is = rw same at c.solve_part.ensures.refused in
    replied_by c.solve_part.result unwritten unwritten unwritten (λ reply said _. said) is is c.solve_part.ensures.none

pub returns-clause-begun : goal.returns-clause-begun
returns-clause-begun g c = λ fault. (c.in_ok-plant.plant, (c.in_ok-plant.ensures.read, c.solve_part.ensures.begun fault))

pub returns-clause-left : goal.returns-clause-left
returns-clause-left g c =
    let same = c.in_ok-plant.ensures.same in
    inr (record { plant = c.in_ok-plant.plant; read = c.in_ok-plant.ensures.read; holds = rw same at c.solve_part.ensures.left })

pub returns-clause-others : goal.returns-clause-others
returns-clause-others g c = let same = c.in_ok-plant.ensures.same in rw same at c.solve_part.ensures.others

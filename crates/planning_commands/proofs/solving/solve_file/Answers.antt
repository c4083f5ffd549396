use Rattle.std.proofs.Common.{◌≡◌, ◌⊎◌, ℕ, List, [], Some, None, inl, inr}
use Rattle.std.proofs.lemmas.Result.{err_from_is_err_and}
use Rattle.stn_edge.specs.Files.{OthersStay}
use Rattle.stn_model.specs.Answers.{IsOutcome}
use Rattle.plan_told.specs.Proofs.{HasPlantProof}
use Rattle.command_words.specs.Words.{named_log}
use Rattle.command_replies.specs.declared.reply.Reply.{Reply}
use Rattle.command_replies.specs.Answers.{IsPlantAnswer, IsUnwritten}
use Rattle.command_replies.proofs.AnswerLemmas.{of_refusal, plant_answer, plant_refused, replied, replied_if}
use Rattle.command_replies.proofs.FileLemmas.{stay_same}
use Rattle.answer_texts.specs.Changed.{counted_since}
use Rattle.answer_texts.specs.Planning.{Planned}
use Rattle.answer_texts.proofs.StatusLemmas.{solved-status}
use Rattle.planning_commands.specs.Improving.{IsGivenOutcome}
use Rattle.planning_commands.specs.NamedLog.{told_log}
use Rattle.planning_commands.specs.Solving.{HoldsLog, LeavesPlant, Solved}
use Rattle.planning_commands.proofs.NamedLemmas.{left-as, left-same}
use Rattle.planning_commands.proofs.PlannedLemmas.{planned-as}
use Rattle.planning_commands.proofs.solving.solve_file.Goals as goal

pub returns-in_err-plant-clause-answer : goal.returns-in_err-plant-clause-answer
returns-in_err-plant-clause-answer g c =
    let old = g.F.Shelf.files c.args.files.now in
    let new = g.F.Shelf.files c.plant_in.new.files in
    let p = err_from_is_err_and c.from_residual.result c.from_residual.ensures.1 in
    rw (p.1, p.2) (plant_refused old new c.args.name.now [] (λ _ plant. Solved c.args.budget.boxes plant (told_log (named_log c.args.log) new)) c.in_err-plant.field-0.0 c.in_err-plant.ensures.same c.in_err-plant.ensures.refused)

pub returns-in_err-plant-clause-refused : goal.returns-in_err-plant-clause-refused
returns-in_err-plant-clause-refused g c =
    let unwritten : Reply → Type 0 = λ reply. IsUnwritten reply.status → g.F.Shelf.files c.plant_in.new.files ≡ g.F.Shelf.files c.args.files.now in
    replied c.from_residual.result unwritten (λ reply _. c.in_err-plant.ensures.same)

pub returns-in_err-plant-clause-left : goal.returns-in_err-plant-clause-left
returns-in_err-plant-clause-left g c =
    let old = g.F.Shelf.files c.args.files.now in
    let new = g.F.Shelf.files c.plant_in.new.files in
    left-same (named_log c.args.log) (λ (log : List ℕ). (new ≡ old) ⊎ HoldsLog old new c.args.name.now log) old new c.in_err-plant.ensures.same (λ name. inl c.in_err-plant.ensures.same)

pub returns-in_err-plant-clause-others : goal.returns-in_err-plant-clause-others
returns-in_err-plant-clause-others g c =
    let old = g.F.Shelf.files c.args.files.now in
    let new = g.F.Shelf.files c.plant_in.new.files in
    left-same (named_log c.args.log) (λ (name : List ℕ). OthersStay name old new) old new c.in_err-plant.ensures.same (λ name. stay_same name old new c.in_err-plant.ensures.same)

pub returns-clause-answer : goal.returns-clause-answer
returns-clause-answer g c =
    let old = g.F.Shelf.files c.args.files.now in
    let new = g.F.Shelf.files c.plan_plant.new.files in
    let budget = c.args.budget.boxes in
    let told = told_log (named_log c.args.log) new in
    let plant = c.in_ok-plant.plant in
    replied_if c.plan_plant.result (λ reply. Planned plant (counted_since None []) (IsGivenOutcome plant [] budget) (HasPlantProof plant told) reply.status reply.text.items)
    (λ reply. IsPlantAnswer old new c.args.name.now [] (λ _ p. Solved budget p told) reply.status reply.text.items)
    (λ reply is. plant_answer old new c.args.name.now [] (λ _ p. Solved budget p told) plant c.in_ok-plant.ensures.read reply.status reply.text.items
    (planned-as plant (counted_since None []) (IsGivenOutcome plant [] budget) (IsOutcome plant budget) (HasPlantProof plant told) (HasPlantProof plant told) reply.status reply.text.items (λ outcome given. given.right) (λ outcome has. has) is)
    (λ refused. absurd (solved-status is.outcome.answer reply.status is.status_is (of_refusal reply.status refused))))
    c.plan_plant.ensures.answer c.plan_plant.ensures.plans.none

pub returns-clause-refused : goal.returns-clause-refused
returns-clause-refused g c =
    let old = g.F.Shelf.files c.args.files.now in
    let new = g.F.Shelf.files c.plan_plant.new.files in
    let told = told_log (named_log c.args.log) new in
    let plant = c.in_ok-plant.plant in
    replied_if c.plan_plant.result (λ reply. Planned plant (counted_since None []) (IsGivenOutcome plant [] c.args.budget.boxes) (HasPlantProof plant told) reply.status reply.text.items) (λ reply. IsUnwritten reply.status → new ≡ old)
    (λ reply is none. absurd (solved-status is.outcome.answer reply.status is.status_is none))
    c.plan_plant.ensures.answer c.plan_plant.ensures.plans.none

pub returns-clause-begun : goal.returns-clause-begun
returns-clause-begun g c = λ _. (c.in_ok-plant.plant, c.in_ok-plant.ensures.read)

pub returns-clause-left : goal.returns-clause-left
returns-clause-left g c =
    let same = c.in_ok-plant.ensures.same in
    let old = g.F.Shelf.files c.args.files.now in
    let new = g.F.Shelf.files c.plan_plant.new.files in
    let plant = c.in_ok-plant.plant in
    left-as (named_log c.args.log) (λ (log : List ℕ). LeavesPlant plant log old new) (λ (log : List ℕ). (new ≡ old) ⊎ HoldsLog old new c.args.name.now log) old new
    (λ log left. inr (record { plant = plant; read = c.in_ok-plant.ensures.read; holds = left })) (rw same at c.plan_plant.ensures.left)

pub returns-clause-others : goal.returns-clause-others
returns-clause-others g c = let same = c.in_ok-plant.ensures.same in rw same at c.plan_plant.ensures.plans.others

use Rattle.std.proofs.Common.{◌≡◌, ◌⊎◌, ℕ, List, [], ◌∷◌, ◌∙◌, inl, inr}
use Rattle.std.proofs.lemmas.Result.{err_from_is_err_and}
use Rattle.stn_edge.specs.Files.{OthersStay}
use Rattle.stn_model.specs.declared.plant.Plant.{Plant}
use Rattle.stn_model.specs.declared.start.Start.{Start}
use Rattle.plan_text.specs.PlanText.{plan_of_text}
use Rattle.command_words.specs.Words.{named_log}
use Rattle.command_replies.specs.declared.reply.Reply.{Reply}
use Rattle.command_replies.specs.Answers.{IsUnwritten, content}
use Rattle.command_replies.specs.Sources.{OnPlan}
use Rattle.command_replies.proofs.AnswerLemmas.{plant_refused, replied}
use Rattle.command_replies.proofs.FileLemmas.{stay_same}
use Rattle.planning_commands.specs.NamedLog.{told_log}
use Rattle.planning_commands.specs.PlanningOn.{CanGoOn, HoldsOn, LeavesOn, PlannedOn}
use Rattle.planning_commands.proofs.NamedLemmas.{left-as, left-same}
use Rattle.planning_commands.proofs.planning_on.plan_on_file.Goals as goal

pub returns-in_err-plant-clause-answer : goal.returns-in_err-plant-clause-answer
returns-in_err-plant-clause-answer g c =
    let old = g.F.Shelf.files c.args.files.now in
    let new = g.F.Shelf.files c.plant_in.new.files in
    let answers : Plant → List Start → ℕ → List ℕ → Type 0 = λ plant starts. PlannedOn c.args.kept c.args.budget.boxes plant starts (told_log (named_log c.args.log) new) (new ≡ old) in
    let p = err_from_is_err_and c.from_residual.result c.from_residual.ensures.1 in
    rw (p.1, p.2) (plant_refused old new c.args.plant.now (c.args.plan.now ∷ []) (λ contents plant. OnPlan (plan_of_text plant (content contents 1)) (answers plant)) c.in_err-plant.field-0.0
    c.in_err-plant.ensures.same c.in_err-plant.ensures.refused)

pub returns-in_err-plant-clause-refused : goal.returns-in_err-plant-clause-refused
returns-in_err-plant-clause-refused g c =
    let unwritten : Reply → Type 0 = λ reply. IsUnwritten reply.status → g.F.Shelf.files c.plant_in.new.files ≡ g.F.Shelf.files c.args.files.now in
    replied c.from_residual.result unwritten (λ reply _. c.in_err-plant.ensures.same)

pub returns-in_err-plant-clause-left : goal.returns-in_err-plant-clause-left
returns-in_err-plant-clause-left g c =
    let old = g.F.Shelf.files c.args.files.now in
    let new = g.F.Shelf.files c.plant_in.new.files in
    left-same (named_log c.args.log) (λ (name : List ℕ). (new ≡ old) ⊎ HoldsOn old new c.args.plant.now c.args.plan.now c.args.kept name) old new c.in_err-plant.ensures.same (λ name. inl c.in_err-plant.ensures.same)

pub returns-in_err-plant-clause-others : goal.returns-in_err-plant-clause-others
returns-in_err-plant-clause-others g c =
    let old = g.F.Shelf.files c.args.files.now in
    let new = g.F.Shelf.files c.plant_in.new.files in
    left-same (named_log c.args.log) (λ (name : List ℕ). OthersStay name old new) old new c.in_err-plant.ensures.same (λ name. stay_same name old new c.in_err-plant.ensures.same)

pub returns-clause-answer : goal.returns-clause-answer
returns-clause-answer g c = (let same = c.in_ok-plant.ensures.same in rw same at c.plan_on.ensures.answer c.args.plant.now) c.in_ok-plant.ensures.read

pub returns-clause-refused : goal.returns-clause-refused
returns-clause-refused g c = (let same = c.in_ok-plant.ensures.same in rw same at c.plan_on.ensures.refused)

pub returns-clause-unread : goal.returns-clause-unread
returns-clause-unread g c = λ fault. c.plan_on.ensures.unread fault ∙ c.in_ok-plant.ensures.same

pub returns-clause-begun : goal.returns-clause-begun
returns-clause-begun g c = λ failed.
    let same = c.in_ok-plant.ensures.same in
    let is = rw same at c.plan_on.ensures.begun failed in
    record { plant = c.in_ok-plant.plant; read = c.in_ok-plant.ensures.read; starts = is.0; read_plan = is.1.0; can = is.1.1 }

pub returns-clause-left : goal.returns-clause-left
returns-clause-left g c =
    let same = c.in_ok-plant.ensures.same in
    let old = g.F.Shelf.files c.args.files.now in
    let new = g.F.Shelf.files c.plan_on.new.files in
    let plant = c.in_ok-plant.plant in
    let kept = c.args.kept in
    let name = c.args.plant.now in
    let plan = c.args.plan.now in
    let log = named_log c.args.log in
    elim (rw same at c.plan_on.ensures.left) [
      | inl is ↦ left-same log (λ (l : List ℕ). (new ≡ old) ⊎ HoldsOn old new name plan kept l) old new is (λ l. inl is)
      | inr holds ↦
          left-as log (λ (l : List ℕ). (new ≡ old) ⊎ (CanGoOn kept plant holds.0 × LeavesOn kept plant holds.0 l old new)) (λ (l : List ℕ). (new ≡ old) ⊎ HoldsOn old new name plan kept l) old new
          (λ l left. elim left [
            | inl is ↦ inl is
            | inr whole ↦ inr (record { from = record { plant = plant; read = c.in_ok-plant.ensures.read; starts = holds.0; read_plan = holds.1.0; can = whole.0 }; holds = whole.1 })
          ]) holds.1.1
    ]

pub returns-clause-others : goal.returns-clause-others
returns-clause-others g c = (let same = c.in_ok-plant.ensures.same in rw same at c.plan_on.ensures.others)

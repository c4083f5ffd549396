use Rattle.std.proofs.Common.{◌≡◌, ℕ, List, [], inl, inr}
use Rattle.std.proofs.lemmas.Result.{err_from_is_err_and}
use Rattle.stn_model.specs.declared.plant.Plant.{Plant}
use Rattle.stn_model.specs.declared.start.Start.{Start}
use Rattle.command_words.specs.Words.{named_log}
use Rattle.command_replies.specs.declared.reply.Reply.{Reply}
use Rattle.command_replies.specs.Answers.{IsPlanAnswer, IsUnwritten}
use Rattle.command_replies.proofs.AnswerLemmas.{of_refusal, plan_refused, plan_answer, replied, replied_if}
use Rattle.command_replies.proofs.FileLemmas.{stay_same}
use Rattle.planning_commands.specs.NamedLog.{told_log}
use Rattle.planning_commands.specs.PlanningOn.{PlannedOn}
use Rattle.planning_commands.proofs.NamedLemmas.{left-same}
use Rattle.planning_commands.proofs.OnLemmas.{unwritten-on}
use Rattle.stn_edge.specs.Files.{OthersStay}
use Rattle.planning_commands.proofs.planning_on.plan_on.Goals as goal

pub returns-in_err-plan-clause-answer : goal.returns-in_err-plan-clause-answer
returns-in_err-plan-clause-answer g c = λ name read.
    let old = g.F.Shelf.files c.args.files.now in
    let new = g.F.Shelf.files c.plan_in.new.files in
    let answers : Plant → List Start → ℕ → List ℕ → Type 0 = λ plant starts. PlannedOn c.args.kept c.args.budget.boxes plant starts (told_log (named_log c.args.log) new) (new ≡ old) in
    let p = err_from_is_err_and c.from_residual.result c.from_residual.ensures.1 in
    rw (p.1, p.2) (plan_refused old new name c.args.plan.now [] answers c.args.plant.now read c.in_err-plan.field-0.0 c.in_err-plan.ensures.same c.in_err-plan.ensures.refused)

pub returns-in_err-plan-clause-refused : goal.returns-in_err-plan-clause-refused
returns-in_err-plan-clause-refused g c =
    let unwritten : Reply → Type 0 = λ reply. IsUnwritten reply.status → g.F.Shelf.files c.plan_in.new.files ≡ g.F.Shelf.files c.args.files.now in
    replied c.from_residual.result unwritten (λ reply _. c.in_err-plan.ensures.same)

pub returns-in_err-plan-clause-left : goal.returns-in_err-plan-clause-left
returns-in_err-plan-clause-left g c = inl c.in_err-plan.ensures.same

pub returns-in_err-plan-clause-others : goal.returns-in_err-plan-clause-others
returns-in_err-plan-clause-others g c =
    let old = g.F.Shelf.files c.args.files.now in
    let new = g.F.Shelf.files c.plan_in.new.files in
    left-same (named_log c.args.log) (λ (name : List ℕ). OthersStay name old new) old new c.in_err-plan.ensures.same (λ name. stay_same name old new c.in_err-plan.ensures.same)

pub returns-clause-answer : goal.returns-clause-answer
returns-clause-answer g c = λ name read.
    let old = g.F.Shelf.files c.args.files.now in
    let new = g.F.Shelf.files c.go_on.new.files in
    let kept = c.args.kept in
    let budget = c.args.budget.boxes in
    let told = told_log (named_log c.args.log) new in
    let answers : Plant → List Start → ℕ → List ℕ → Type 0 = λ plant starts. PlannedOn kept budget plant starts told (new ≡ old) in
    let plant = c.args.plant.now in
    let slice = c.as_slice.ensures in
    let same = c.in_ok-plan.ensures.same in
    replied_if c.go_on.result (λ reply. PlannedOn kept budget plant c.in_ok-plan.plan told (new ≡ old) reply.status reply.text.items)
    (λ reply. IsPlanAnswer old new name c.args.plan.now [] answers reply.status reply.text.items)
    (λ reply is. plan_answer old new name c.args.plan.now [] answers plant read c.in_ok-plan.plan c.in_ok-plan.ensures.read reply.status reply.text.items is
    (λ refused. unwritten-on kept budget plant c.in_ok-plan.plan told (new ≡ old) reply.status reply.text.items is (of_refusal reply.status refused)))
    (rw (slice, same) at c.go_on.ensures.answer) c.go_on.ensures.plans.none

pub returns-clause-refused : goal.returns-clause-refused
returns-clause-refused g c =
    let old = g.F.Shelf.files c.args.files.now in
    let new = g.F.Shelf.files c.go_on.new.files in
    let kept = c.args.kept in
    let budget = c.args.budget.boxes in
    let told = told_log (named_log c.args.log) new in
    let plant = c.args.plant.now in
    let slice = c.as_slice.ensures in
    let same = c.in_ok-plan.ensures.same in
    replied_if c.go_on.result (λ reply. PlannedOn kept budget plant c.in_ok-plan.plan told (new ≡ old) reply.status reply.text.items) (λ reply. IsUnwritten reply.status → new ≡ old)
    (λ reply is none. unwritten-on kept budget plant c.in_ok-plan.plan told (new ≡ old) reply.status reply.text.items is none)
    (rw (slice, same) at c.go_on.ensures.answer) c.go_on.ensures.plans.none

pub returns-clause-begun : goal.returns-clause-begun
returns-clause-begun g c = λ failed.
    let slice = c.as_slice.ensures in
    (c.in_ok-plan.plan, (c.in_ok-plan.ensures.read, (rw slice at c.go_on.ensures.begun failed)))

pub returns-clause-left : goal.returns-clause-left
returns-clause-left g c =
    let slice = c.as_slice.ensures in
    let same = c.in_ok-plan.ensures.same in
    inr (c.in_ok-plan.plan, (c.in_ok-plan.ensures.read, (rw (slice, same) at c.go_on.ensures.left)))

pub returns-clause-others : goal.returns-clause-others
returns-clause-others g c = (let same = c.in_ok-plan.ensures.same in rw same at c.go_on.ensures.plans.others)

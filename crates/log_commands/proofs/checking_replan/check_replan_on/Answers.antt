use Rattle.std.proofs.Common.{◌≡◌, ℕ, List, [], ◌∷◌, ◌∙◌}
use Rattle.std.specs.Prelude.{⊤}
use Rattle.std.specs.Option.{option_map}
use Rattle.std.proofs.lemmas.Result.{err_from_is_err_and}
use Rattle.stn_edge.specs.Files.{file_of}
use Rattle.stn_model.specs.declared.plant.Plant.{Plant}
use Rattle.stn_model.specs.declared.start.Start.{Start}
use Rattle.frozen_plan.specs.Frozen.{kept_starts}
use Rattle.command_replies.specs.Answers.{IsPlanAnswer}
use Rattle.command_replies.proofs.AnswerLemmas.{plan_refused, plan_answer, replied_if}
use Rattle.answer_texts.proofs.KeptLemmas.{unchanged}
use Rattle.log_commands.specs.CheckingReplan.{CheckedOver, ReplanChecked}
use Rattle.log_commands.proofs.checking_replan.check_replan_on.Goals as goal

pub returns-in_err-plan-clause-answer : goal.returns-in_err-plan-clause-answer
returns-in_err-plan-clause-answer g c = λ name read.
    let old = g.F.Shelf.files c.args.files.now in
    let new = g.F.Shelf.files c.plan_in.new.files in
    let period = c.args.period.number in
    let answers : Plant → List Start → ℕ → List ℕ → Type 0 = λ plant starts. ReplanChecked (option_map (λ m. file_of m c.args.log.now) old) plant period (kept_starts period starts) (new ≡ old) in
    let p = err_from_is_err_and c.from_residual.result c.from_residual.ensures.1 in
    rw (p.1, p.2) (plan_refused old new name c.args.plan.now (c.args.log.now ∷ []) answers c.args.plant.now read c.in_err-plan.field-0.0 c.in_err-plan.ensures.same c.in_err-plan.ensures.refused)

pub returns-clause-answer : goal.returns-clause-answer
returns-clause-answer g c = λ name read.
    let old = g.F.Shelf.files c.args.files.now in
    let new = g.F.Shelf.files c.check_replan.new.files in
    let period = c.args.period.number in
    let told = option_map (λ m. file_of m c.args.log.now) old in
    let plant = c.args.plant.now in
    let kept = kept_starts period c.in_ok-plan.plan in
    let slice = c.as_slice.ensures in
    let before = c.in_ok-plan.ensures.same in
    let same : new ≡ old = c.check_replan.ensures.kept.same ∙ before in
    let answers : Plant → List Start → ℕ → List ℕ → Type 0 = λ p starts. ReplanChecked told p period (kept_starts period starts) (new ≡ old) in
    replied_if c.check_replan.result (λ reply. ReplanChecked told plant period kept ⊤ reply.status reply.text.items)
    (λ reply. IsPlanAnswer old new name c.args.plan.now (c.args.log.now ∷ []) answers reply.status reply.text.items)
    (λ reply is. plan_answer old new name c.args.plan.now (c.args.log.now ∷ []) answers plant read c.in_ok-plan.plan c.in_ok-plan.ensures.read reply.status reply.text.items
    (unchanged plant period kept (new ≡ old) (CheckedOver told plant period kept) reply.status reply.text.items same is) (λ _. same))
    (rw (slice, before) at c.check_replan.ensures.answer) c.check_replan.ensures.none

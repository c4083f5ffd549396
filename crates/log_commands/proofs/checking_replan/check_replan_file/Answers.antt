use Rattle.std.proofs.Common.{◌≡◌, ℕ, List, [], ◌∷◌}
use Rattle.std.specs.Option.{option_map}
use Rattle.std.proofs.lemmas.Result.{err_from_is_err_and}
use Rattle.stn_edge.specs.Files.{file_of}
use Rattle.stn_model.specs.declared.plant.Plant.{Plant}
use Rattle.stn_model.specs.declared.start.Start.{Start}
use Rattle.plan_text.specs.PlanText.{plan_of_text}
use Rattle.frozen_plan.specs.Frozen.{kept_starts}
use Rattle.command_replies.specs.Answers.{content}
use Rattle.command_replies.specs.Sources.{OnPlan}
use Rattle.command_replies.proofs.AnswerLemmas.{plant_refused}
use Rattle.log_commands.specs.CheckingReplan.{ReplanChecked}
use Rattle.log_commands.proofs.checking_replan.check_replan_file.Goals as goal

pub returns-in_err-plant-clause-answer : goal.returns-in_err-plant-clause-answer
returns-in_err-plant-clause-answer g c =
    let old = g.F.Shelf.files c.args.files.now in
    let new = g.F.Shelf.files c.plant_in.new.files in
    let period = c.args.period.number in
    let answers : Plant → List Start → ℕ → List ℕ → Type 0 = λ plant starts. ReplanChecked (option_map (λ m. file_of m c.args.log.now) old) plant period (kept_starts period starts) (new ≡ old) in
    let p = err_from_is_err_and c.from_residual.result c.from_residual.ensures.1 in
    rw (p.1, p.2) (plant_refused old new c.args.plant.now (c.args.plan.now ∷ c.args.log.now ∷ []) (λ contents plant. OnPlan (plan_of_text plant (content contents 1)) (answers plant)) c.in_err-plant.field-0.0
    c.in_err-plant.ensures.same c.in_err-plant.ensures.refused)

pub returns-clause-answer : goal.returns-clause-answer
returns-clause-answer g c = (let same = c.in_ok-plant.ensures.same in rw same at c.check_replan_on.ensures.answer c.args.plant.now) c.in_ok-plant.ensures.read

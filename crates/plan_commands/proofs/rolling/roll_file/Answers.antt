use Rattle.std.specs.Prelude.{[], ◌∷◌}
use Rattle.std.proofs.lemmas.Result.{err_from_is_err_and}
use Rattle.plan_text.specs.PlanText.{plan_of_text}
use Rattle.command_replies.specs.Answers.{content}
use Rattle.command_replies.specs.Sources.{OnPlan}
use Rattle.command_replies.proofs.AnswerLemmas.{plant_refused}
use Rattle.plan_commands.specs.Rolling.{Rolled}
use Rattle.plan_commands.proofs.rolling.roll_file.Goals as goal

pub returns-in_err-plant-clause-answer : goal.returns-in_err-plant-clause-answer
returns-in_err-plant-clause-answer g c =
    let p = err_from_is_err_and c.from_residual.result c.from_residual.ensures.1 in
    rw (p.1, p.2) (plant_refused (g.F.Shelf.files c.args.files.now) (g.F.Shelf.files c.plant_in.new.files) c.args.plant.now (c.args.plan.now ∷ []) (λ contents p. OnPlan (plan_of_text p (content contents 1)) (Rolled c.args.rest c.args.period.number p))
    c.in_err-plant.field-0.0 c.in_err-plant.ensures.same c.in_err-plant.ensures.refused)

pub returns-clause-answer : goal.returns-clause-answer
returns-clause-answer g c = (let same = c.in_ok-plant.ensures.same in rw same at c.roll_on.ensures.answer c.args.plant.now) c.in_ok-plant.ensures.read

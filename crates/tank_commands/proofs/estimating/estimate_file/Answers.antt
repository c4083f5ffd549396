use Rattle.std.specs.Prelude.{[], ◌∷◌}
use Rattle.std.proofs.lemmas.Result.{err_from_is_err_and}
use Rattle.command_replies.specs.Answers.{content}
use Rattle.command_replies.proofs.AnswerLemmas.{plant_refused}
use Rattle.tank_commands.specs.Estimating.{Estimated}
use Rattle.tank_commands.proofs.TankAnswers.{estimated_reply}
use Rattle.tank_commands.proofs.estimating.estimate_file.Goals as goal

pub returns-in_err-plant-clause-answer : goal.returns-in_err-plant-clause-answer
returns-in_err-plant-clause-answer g c =
    let p = err_from_is_err_and c.from_residual.result c.from_residual.ensures.1 in
    rw (p.1, p.2) (plant_refused (g.F.Shelf.files c.args.files.now) (g.F.Shelf.files c.plant_in.new.files) c.args.plant.now (c.args.log.now ∷ []) (λ contents. Estimated c.args.state.now c.args.steps.step c.args.steps.count (content contents 1)) c.in_err-plant.field-0.0 c.in_err-plant.ensures.same c.in_err-plant.ensures.refused)

pub returns-clause-answer : goal.returns-clause-answer
returns-clause-answer g c =
    estimated_reply (g.F.Shelf.files c.args.files.now) (g.F.Shelf.files c.estimate_log.new.files) c.args.plant.now c.args.log.now c.args.state.now c.args.steps.step c.args.steps.count c.in_ok-plant.plant c.estimate_log.result (cc)
    c.in_ok-plant.ensures.read (let e = c.in_ok-plant.ensures.same in rw e at c.estimate_log.ensures.answer) c.estimate_log.ensures.none

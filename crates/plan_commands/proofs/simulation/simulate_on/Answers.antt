use Rattle.std.specs.Prelude.{[]}
use Rattle.std.proofs.lemmas.Result.{err_from_is_err_and}
use Rattle.command_replies.proofs.AnswerLemmas.{plan_refused, plan_answer}
use Rattle.answer_texts.specs.Simulation.{Simulated}
use Rattle.plan_commands.proofs.simulation.simulate_on.Goals as goal

pub returns-in_err-plan-clause-answer : goal.returns-in_err-plan-clause-answer
returns-in_err-plan-clause-answer g c = λ name read.
    let p = err_from_is_err_and c.from_residual.result c.from_residual.ensures.1 in
    rw (p.1, p.2) (plan_refused (g.F.Shelf.files c.args.files.now) (g.F.Shelf.files c.plan_in.new.files) name c.args.plan.now [] (Simulated c.args.usage) c.args.plant.now read
    c.in_err-plan.field-0.0 c.in_err-plan.ensures.same c.in_err-plan.ensures.refused)

pub returns-clause-answer : goal.returns-clause-answer
returns-clause-answer g c = λ name read.
    plan_answer (g.F.Shelf.files c.args.files.now) (g.F.Shelf.files c.plan_in.new.files) name c.args.plan.now [] (Simulated c.args.usage) c.args.plant.now read
    c.in_ok-plan.plan c.in_ok-plan.ensures.read
    c.in_ok-simulate_plan.field-0.status c.in_ok-simulate_plan.field-0.text.items (let e = c.as_slice.ensures in rw e at c.in_ok-simulate_plan.ensures) (λ _. c.in_ok-plan.ensures.same)

use Rattle.std.specs.Prelude.{[], Ok}
use Rattle.std.proofs.lemmas.Result.{err_from_is_err_and}
use Rattle.plan_text.proofs.Kept.{IsKept-answer}
use Rattle.command_replies.proofs.AnswerLemmas.{plan_refused, plan_answer}
use Rattle.plan_commands.specs.Rolling.{Rolled}
use Rattle.plan_commands.proofs.rolling.roll_on.Goals as goal

pub returns-in_err-plan-clause-answer : goal.returns-in_err-plan-clause-answer
returns-in_err-plan-clause-answer g c = λ name read.
    let p = err_from_is_err_and c.from_residual.result c.from_residual.ensures.1 in
    rw (p.1, p.2) (plan_refused (g.F.Shelf.files c.args.files.now) (g.F.Shelf.files c.plan_in.new.files) name c.args.plan.now [] (Rolled c.args.rest c.args.period.number) c.args.plant.now read
    c.in_err-plan.field-0.0 c.in_err-plan.ensures.same c.in_err-plan.ensures.refused)

pub returns-clause-answer : goal.returns-clause-answer
returns-clause-answer g c = λ name read.
    plan_answer (g.F.Shelf.files c.args.files.now) (g.F.Shelf.files c.plan_in.new.files) name c.args.plan.now [] (Rolled c.args.rest c.args.period.number) c.args.plant.now read
    c.in_ok-plan.plan c.in_ok-plan.ensures.read
    c.in_ok-roll_plan.field-0.status c.in_ok-roll_plan.field-0.text.items (let e = c.as_slice.ensures in rw e at c.in_ok-roll_plan.ensures) (λ _. c.in_ok-plan.ensures.same)

pub roll_plan-requires-clause-few : goal.roll_plan-requires-clause-few
roll_plan-requires-clause-few g c =
    let kept = IsKept-answer c.args.plant.now c.in_ok-plan.ensures.read.bytes (Ok c.in_ok-plan.plan) c.in_ok-plan.ensures.read.is in
    rw c.as_slice.ensures kept.few

pub roll_plan-requires-clause-writable : goal.roll_plan-requires-clause-writable
roll_plan-requires-clause-writable g c =
    let kept = IsKept-answer c.args.plant.now c.in_ok-plan.ensures.read.bytes (Ok c.in_ok-plan.plan) c.in_ok-plan.ensures.read.is in
    rw c.as_slice.ensures kept.writable

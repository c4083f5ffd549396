-- What planning without a delivery says of it.
use Rattle.std.proofs.Common.{◌≡◌, ap, sym, subst, ◌∙◌}
use Rattle.stn_model.specs.declared.plant.Plant.{Plant}
use Rattle.fewer_orders.specs.Alone.{alone}
use Rattle.order_text.specs.declared.mark.Mark.{Mark}
use Rattle.order_conflict.specs.Conflict.{mark_of, left_without, TrialSays}
use Rattle.order_conflict.proofs.Passing.{trial_says}
use Rattle.order_conflict.proofs.trials.trial.Goals as goal

pub returns : goal.returns
returns g c =
    let outcome = c.in_ok-answer.field-0 in
    let fewer = c.in_ok-fewer.fewer in
    let plant_is : fewer ≡ alone c.args.plant.now (left_without c.args.place c.args.marks.now) = c.in_ok-fewer.ensures.alone ∙ ap (alone c.args.plant.now) (c.as_slice.ensures.value ∙ c.in_ok-kept.ensures) in
    let mark_is : c.mark_of.result ≡ mark_of outcome.answer = c.mark_of.ensures in
    subst (λ (p : Plant). TrialSays c.mark_of.result c.args.budget p) plant_is
    (subst (λ (m : Mark). TrialSays m c.args.budget fewer) (sym mark_is) (trial_says fewer c.args.budget outcome.boxes outcome.answer c.in_ok-answer.ensures.outcome))

-- What is told of a search over the rows with what a head declares is right.
use Rattle.std.proofs.Common.{None, ◌∙◌}
use Rattle.std.proofs.lemmas.Result.{IfOk-weaker}
use Rattle.stn_model.specs.declared.answer.Outcome.{Outcome}
use Rattle.stn_solve.specs.laws.Telling.{IsToldOver}
use Rattle.stn_solve.proofs.SearchTold.{can-be-told, headed-images}
use Rattle.stn_solve.proofs.ToldOver.{over-begun, over-outcome, over-proof}
use Rattle.stn_solve.proofs.headed.plan_headed.Goals as goal

pub plan_over-requires : goal.plan_over-requires
plan_over-requires g c = record {
  sound = c.requires.sound;
  images = headed-images c.args.plant.now c.args.part c.args.judged c.in_ok-headed.field-0.headed c.requires.sound c.requires.part_of c.requires.ranges c.in_ok-headed.ensures.headed;
  splits = c.in_ok-headed.ensures.headed.few_splits;
  few = c.requires.few;
  told = can-be-told c.args.plant.now c.args.part c.args.judged c.in_ok-headed.field-0.headed c.in_ok-headed.field-0.least c.args.budget c.requires.sound c.requires.part_of c.requires.ranges c.in_ok-headed.ensures.headed c.in_ok-headed.ensures.least c.requires.few.0 c.requires.many c.requires.few.1;
}

pub returns-clause-outcome : goal.returns-clause-outcome
returns-clause-outcome g c =
    IfOk-weaker c.plan_over.result _ _ (λ (outcome : Outcome) (over : IsToldOver c.args.plant.now c.in_ok-headed.field-0.headed c.in_ok-headed.field-0.least c.args.budget c.as_slice.result.now None outcome). over-outcome c.args.plant.now c.args.part c.args.judged c.in_ok-headed.field-0.headed c.in_ok-headed.field-0.least c.args.budget c.as_slice.result.now None c.requires.sound c.requires.part_of c.requires.ranges c.in_ok-headed.ensures.headed c.in_ok-headed.ensures.least c.requires.few.0 c.requires.many c.requires.few.1 outcome over) c.plan_over.ensures

pub returns-clause-proof : goal.returns-clause-proof
returns-clause-proof g c = λ levels has.
    IfOk-weaker c.plan_over.result _ _ (λ (outcome : Outcome) (over : IsToldOver c.args.plant.now c.in_ok-headed.field-0.headed c.in_ok-headed.field-0.least c.args.budget c.as_slice.result.now None outcome). over-proof c.args.plant.now c.args.part c.args.judged c.in_ok-headed.field-0.headed c.in_ok-headed.field-0.least c.args.budget c.as_slice.result.now None c.requires.sound c.requires.part_of c.requires.ranges c.in_ok-headed.ensures.headed c.in_ok-headed.ensures.least c.requires.few.0 c.requires.many c.requires.few.1 outcome over levels has) c.plan_over.ensures

pub returns-clause-begun : goal.returns-clause-begun
returns-clause-begun g c =
    IfOk-weaker c.plan_over.result _ _ (λ (outcome : Outcome) (over : IsToldOver c.args.plant.now c.in_ok-headed.field-0.headed c.in_ok-headed.field-0.least c.args.budget c.as_slice.result.now None outcome). over-begun c.args.plant.now c.args.part c.args.judged c.in_ok-headed.field-0.headed c.in_ok-headed.field-0.least c.args.budget c.as_slice.result.now None c.requires.sound c.requires.part_of c.requires.ranges c.in_ok-headed.ensures.headed c.in_ok-headed.ensures.least c.requires.few.0 c.requires.many c.requires.few.1 outcome over c.args.start.now (λ lawful. c.as_slice.ensures ∙ c.in_ok-headed.ensures.point lawful)) c.plan_over.ensures

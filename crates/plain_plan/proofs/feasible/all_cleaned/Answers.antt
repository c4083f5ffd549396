use Rattle.std.proofs.Common.{refl, arith}
use Rattle.std.proofs.lemmas.List.Elements.{All-more}
use Rattle.std.specs.Prelude.{All}
use Rattle.plain_plan.proofs.Lists.{all_done, all_failed}
use Rattle.stn_model.specs.Batches.{Cleaned}
use Rattle.plain_plan.proofs.feasible.all_cleaned.Goals as goal

pub loop-a-preserved : goal.loop-a-preserved
loop-a-preserved c = All-more (λ a. All (Cleaned c.args.plant.now c.args.plan.now a) c.args.plan.now) c.args.plan.now c.loop-a.a-index _ c.loop-a-test.true c.loop-a.invariant (c.if-not-all_cleaned_after.ensures.0 refl)

pub returns : goal.returns
returns c = all_done (λ a. All (Cleaned c.args.plant.now c.args.plan.now a) c.args.plan.now) c.args.plan.now c.loop-a.a-index c.loop-a-test.false (omega arith) c.loop-a.invariant

pub returns-then-not-all_cleaned_after : goal.returns-then-not-all_cleaned_after
returns-then-not-all_cleaned_after c = all_failed (λ a. All (Cleaned c.args.plant.now c.args.plan.now a) c.args.plan.now) c.args.plan.now c.loop-a.a-index _ c.loop-a-test.true c.if-not-all_cleaned_after.ensures.1

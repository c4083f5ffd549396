use Rattle.std.proofs.Common.{refl, arith}
use Rattle.stn_model.specs.Batches.{Apart}
use Rattle.plain_plan.proofs.Lists.{pairs_done, pairs_failed, pairs_more}
use Rattle.plain_plan.proofs.feasible.all_apart.Goals as goal

pub returns-then-not-all_apart_from : goal.returns-then-not-all_apart_from
returns-then-not-all_apart_from c = pairs_failed (Apart c.args.plant.now) c.args.plan.now c.loop-place.place _ c.loop-place-test.true c.if-not-all_apart_from.ensures.1

pub loop-place-preserved : goal.loop-place-preserved
loop-place-preserved c = pairs_more (Apart c.args.plant.now) c.args.plan.now c.loop-place.place _ c.loop-place-test.true c.loop-place.invariant (c.if-not-all_apart_from.ensures.0 refl)

pub returns : goal.returns
returns c = pairs_done (Apart c.args.plant.now) c.args.plan.now c.loop-place.place c.loop-place-test.false (omega arith) c.loop-place.invariant

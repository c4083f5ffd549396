use Rattle.std.proofs.Common.{refl, arith}
use Rattle.std.proofs.lemmas.List.Elements.{All-more}
use Rattle.plain_plan.proofs.Lists.{all_done}
use Rattle.stn_model.specs.Batches.{Begun}
use Rattle.plain_plan.proofs.feasible.all_begun.Goals as goal

pub loop-b-preserved : goal.loop-b-preserved
loop-b-preserved c = All-more (Begun c.args.plant.now c.args.plan.now) c.args.plan.now c.loop-b.b-index _ c.loop-b-test.true c.loop-b.invariant (c.if-not-is_begun.ensures.0 refl)

pub returns : goal.returns
returns c = all_done (Begun c.args.plant.now c.args.plan.now) c.args.plan.now c.loop-b.b-index c.loop-b-test.false (omega arith) c.loop-b.invariant

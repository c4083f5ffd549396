use Rattle.std.proofs.Common.{refl, arith}
use Rattle.std.proofs.lemmas.List.Elements.{All-more}
use Rattle.plain_plan.proofs.Lists.{all_done}
use Rattle.stn_model.specs.Batches.{Apart}
use Rattle.plain_plan.proofs.feasible.all_apart_from.Goals as goal

pub loop-a-preserved : goal.loop-a-preserved
loop-a-preserved c = All-more (λ a. Apart c.args.plant.now a c.args.b.now) c.args.earlier.now c.loop-a.a-index _ c.loop-a-test.true c.loop-a.invariant (c.if-not-are_apart.ensures.0 refl)

pub returns : goal.returns
returns c = all_done (λ a. Apart c.args.plant.now a c.args.b.now) c.args.earlier.now c.loop-a.a-index c.loop-a-test.false (omega arith) c.loop-a.invariant

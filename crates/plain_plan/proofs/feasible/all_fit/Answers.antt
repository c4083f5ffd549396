use Rattle.std.proofs.Common.{sym, arith}
use Rattle.std.proofs.lemmas.List.Elements.{All-more}
use Rattle.plain_plan.proofs.Lists.{all_done}
use Rattle.stn_model.specs.Fits.{Fits}
use Rattle.plain_plan.proofs.feasible.all_fit.Goals as goal

pub loop-start-preserved : goal.loop-start-preserved
loop-start-preserved c = All-more (Fits c.args.plant.now) c.args.plan.now c.loop-start.start-index _ c.loop-start-test.true c.loop-start.invariant (sym c.if-not-fits.ensures)

pub returns : goal.returns
returns c = all_done (Fits c.args.plant.now) c.args.plan.now c.loop-start.start-index c.loop-start-test.false (omega arith) c.loop-start.invariant

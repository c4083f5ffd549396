use Rattle.std.proofs.Common.{below_more, length, arith}
use Rattle.plan_sim.specs.Units.{ApartUntil}
use Rattle.plan_sim.proofs.units.first_busy.Goals as goal

pub loop-first-preserved : goal.loop-first-preserved
loop-first-preserved c = below_more (λ k. ApartUntil c.args.plant.now c.args.plan.now k (length c.args.plan.now)) c.loop-first.first c.loop-first.invariant c.in-None.ensures

pub returns : goal.returns
returns c = λ first h. c.loop-first.invariant first (omega arith)

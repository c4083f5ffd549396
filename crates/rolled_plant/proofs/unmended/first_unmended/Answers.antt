-- What the starts break first is broken first of what no later start mends.
use Rattle.std.proofs.Common.{subst}
use Rattle.plan_sim.specs.Verdicts.{IsPlanVerdict}
use Rattle.rolled_plant.proofs.Mending.{broken_first}
use Rattle.rolled_plant.proofs.unmended.first_unmended.Goals as goal

pub returns-then-is_unmended : goal.returns-then-is_unmended
returns-then-is_unmended c =
    broken_first c.args.plant.now c.args.before.now c.args.period c.in-Broken.violation c.requires.earlier
    (subst (IsPlanVerdict c.args.plant.now c.args.before.now) c.in-Broken.is c.in_ok-simulate.ensures.verdict) (c.is_unmended.ensures.0 c.if-is_unmended.true)

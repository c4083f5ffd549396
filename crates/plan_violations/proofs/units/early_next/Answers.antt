use Rattle.std.proofs.Common.{◌∙◌}
use Rattle.plan_violations.proofs.Early.{early_of_nearest, early_nowhere}
use Rattle.plan_violations.proofs.units.early_next.Goals as goal

pub returns-in-Some-clause-value : goal.returns-in-Some-clause-value
returns-in-Some-clause-value c = c.first_early.ensures.value ∙ early_of_nearest c.args.plant.now c.args.plan.now c.args.a.now c.in-Some.place c.in-Some.ensures

pub returns-in-None-clause-value : goal.returns-in-None-clause-value
returns-in-None-clause-value c = early_nowhere c.args.plant.now c.args.plan.now c.args.a.now c.in-None.ensures

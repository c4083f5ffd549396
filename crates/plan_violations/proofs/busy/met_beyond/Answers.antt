use Rattle.std.proofs.Common.{sym, ◌∙◌}
use Rattle.plan_violations.proofs.Meeting.{met_some, met_none}
use Rattle.plan_violations.proofs.busy.met_beyond.Goals as goal

pub returns-in-Some : goal.returns-in-Some
returns-in-Some c = met_some c.args.plant.now c.args.plan.now c.args.place c.in-Some.k c.requires.there (sym c.met_behind.ensures.value ∙ c.in-Some.is)

pub returns-in-None : goal.returns-in-None
returns-in-None c = met_none c.args.plant.now c.args.plan.now c.args.place c.requires.there (sym c.met_behind.ensures.value ∙ c.in-None.is)

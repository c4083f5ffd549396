use Rattle.std.proofs.Common.{sym, ◌∙◌}
use Rattle.plan_sim.proofs.Following.{changeover_nearest, changeover_none}
use Rattle.plan_sim.proofs.units.changeover_after.Goals as goal

pub returns-in-Some-clause-value : goal.returns-in-Some-clause-value
returns-in-Some-clause-value c = c.change_cost.ensures ∙ sym (changeover_nearest c.args.plant.now c.args.plan.now c.args.a.now c.in-Some.place c.requires c.in-Some.ensures)

pub returns-in-None-clause-value : goal.returns-in-None-clause-value
returns-in-None-clause-value c = sym (changeover_none c.args.plant.now c.args.plan.now c.args.a.now c.in-None.ensures)

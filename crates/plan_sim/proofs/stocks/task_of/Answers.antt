use Rattle.std.proofs.Common.{◌∙◌}
use Rattle.std.proofs.lemmas.List.{get_or_default}
use Rattle.stn_model.specs.Plant.{no_task}
use Rattle.plan_sim.proofs.stocks.task_of.Goals as goal

pub returns : goal.returns
returns c = c.get.ensures ∙ get_or_default c.args.plant.now.tasks c.args.start.now.task _ no_task c.requires

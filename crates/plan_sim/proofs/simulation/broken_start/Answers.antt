use Rattle.plan_sim.proofs.Firsts.{busy_first}
use Rattle.plan_sim.proofs.simulation.broken_start.Goals as goal

pub returns-in-Some-first_busy : goal.returns-in-Some-first_busy
returns-in-Some-first_busy c = busy_first c.args.plant.now c.args.plan.now c.in-Some-first_busy.pair.first c.in-Some-first_busy.pair.second c.in-None.ensures c.in-Some-first_busy.ensures

use Rattle.plan_sim.proofs.Firsts.{early_first, gap_first, no_twins}
use Rattle.plan_sim.proofs.simulation.broken_wait.Goals as goal

pub returns-in-Some : goal.returns-in-Some
returns-in-Some c = early_first c.args.plant.now c.args.plan.now c.requires.fit c.requires.apart c.in-Some.place c.in-Some.ensures

pub first_gap-requires : goal.first_gap-requires
first_gap-requires c = no_twins c.args.plant.now c.args.plan.now c.requires.sound c.requires.fit c.requires.apart

pub returns-in-Some-first_gap : goal.returns-in-Some-first_gap
returns-in-Some-first_gap c = gap_first c.args.plant.now c.args.plan.now c.requires.fit c.requires.apart c.in-Some-first_gap.pair.first c.in-Some-first_gap.pair.second c.in-None.ensures c.in-Some-first_gap.ensures

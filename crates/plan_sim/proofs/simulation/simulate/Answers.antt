use Rattle.plan_sim.specs.declared.verdict.Verdict.TheVariants.{Broken}
use Rattle.plan_sim.proofs.Firsts.{says_exactly}
use Rattle.plan_sim.proofs.simulation.simulate.Goals as goal

pub returns-in-Some-clause-feasible : goal.returns-in-Some-clause-feasible
returns-in-Some-clause-feasible c = says_exactly c.args.plant.now c.args.plan.now (Broken c.in-Some.violation) c.in-Some.ensures

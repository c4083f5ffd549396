use Rattle.plan_violations.proofs.Firsts.{begins_with_first, empty_exactly}
use Rattle.plan_violations.proofs.listing.violations.Goals as goal

pub returns-clause-feasible : goal.returns-clause-feasible
returns-clause-feasible c = empty_exactly c.args.plant.now c.args.plan.now c.requires.sound c.in_ok-found.found.items c.in_ok-found.ensures

pub returns-clause-first : goal.returns-clause-first
returns-clause-first c = begins_with_first c.args.plant.now c.args.plan.now c.requires.sound c.in_ok-found.found.items c.in_ok-found.ensures

-- The plan of a feasible point can be written, and is short.
use Rattle.resume_commands.proofs.Telling.{few-if, writable-if}
use Rattle.resume_commands.proofs.answering.plan_of.Goals as goal

pub returns-clause-writable : goal.returns-clause-writable
returns-clause-writable c = writable-if c.args.plant.now c.args.point.now c.plan_of.result c.requires.sound c.requires.feasible c.plan_of.ensures

pub returns-clause-few : goal.returns-clause-few
returns-clause-few c = few-if c.args.plant.now c.args.point.now c.plan_of.result c.requires.sound c.requires.feasible c.plan_of.ensures

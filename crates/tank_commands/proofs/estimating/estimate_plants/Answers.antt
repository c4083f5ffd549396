-- The plan of a claim is short.
use Rattle.tank_commands.proofs.TankAnswers.{few_claimed}
use Rattle.tank_commands.proofs.estimating.estimate_plants.Goals as goal

pub put_lines-requires-clause-short : goal.put_lines-requires-clause-short
put_lines-requires-clause-short c = few_claimed c.args.plant c.args.log.now.claim c.in_ok-plan.plan c.requires.sound c.in_ok-plan.ensures.plan

-- What a planner reads in the picture.
use Rattle.plan_picture.proofs.Promises.{bars_are_batches, bars_tell_batches, steps_are_stocks, steps_are_loads}
use Rattle.plan_picture.proofs.whole.picture.Goals as goal

pub returns-clause-bars : goal.returns-clause-bars
returns-clause-bars c = bars_are_batches c.args.plant.now c.args.plan.now

pub returns-clause-words : goal.returns-clause-words
returns-clause-words c = bars_tell_batches c.args.plant.now c.requires.sound c.args.plan.now

pub returns-clause-stocks : goal.returns-clause-stocks
returns-clause-stocks c = steps_are_stocks c.args.plant.now c.args.plan.now

pub returns-clause-loads : goal.returns-clause-loads
returns-clause-loads c = steps_are_loads c.args.plant.now c.args.plan.now

pub returns-in_err-push_picture-clause-bars : goal.returns-in_err-push_picture-clause-bars
returns-in_err-push_picture-clause-bars c = bars_are_batches c.args.plant.now c.args.plan.now

pub returns-in_err-push_picture-clause-words : goal.returns-in_err-push_picture-clause-words
returns-in_err-push_picture-clause-words c = bars_tell_batches c.args.plant.now c.requires.sound c.args.plan.now

pub returns-in_err-push_picture-clause-stocks : goal.returns-in_err-push_picture-clause-stocks
returns-in_err-push_picture-clause-stocks c = steps_are_stocks c.args.plant.now c.args.plan.now

pub returns-in_err-push_picture-clause-loads : goal.returns-in_err-push_picture-clause-loads
returns-in_err-push_picture-clause-loads c = steps_are_loads c.args.plant.now c.args.plan.now

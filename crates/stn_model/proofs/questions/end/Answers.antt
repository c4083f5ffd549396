use Rattle.std.proofs.Common.{arith}
use Rattle.std.proofs.lemmas.List.{get_or_default, get_or_past}
use Rattle.stn_model.specs.Plant.{duration_of, end_of, no_task}
use Rattle.stn_model.proofs.questions.end.Goals as goal

pub returns-then-start-len : goal.returns-then-start-len
unfolding end_of
returns-then-start-len c =
    let same = get_or_default c.args.plant.now.tasks c.args.start.now.task no_task c.get-task.result.now (omega arith) in
    grind (arith, same)

pub returns-else-start-len : goal.returns-else-start-len
unfolding end_of duration_of
returns-else-start-len c =
    let past = get_or_past c.args.plant.now.tasks c.args.start.now.task no_task (omega arith) in
    grind (arith, past)

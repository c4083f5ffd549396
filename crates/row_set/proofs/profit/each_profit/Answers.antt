-- The slot's task, whose batch ends by the horizon.
use Rattle.std.proofs.Common.{◌≡◌, ap, arith}
use Rattle.stn_model.specs.Plant.{duration_of}
use Rattle.row_set.proofs.GainParts.{task_in, ends_by}
use Rattle.row_set.proofs.Small.{task-is, machine-profit}
use Rattle.row_set.proofs.profit.each_profit.Goals as goal

pub outputs_worth-requires-clause-ends : goal.outputs_worth-requires-clause-ends
outputs_worth-requires-clause-ends c =
    let task : c.get-task.result.now ≡ task_in c.args.plant.now c.args.slot = task-is c.args.plant.now c.args.slot c.get-run.result.now c.get-task.result.now c.requires.sound c.requires.slot c.get-run.ensures c.get-task.ensures in
    omega (arith, ap duration_of task, (ends_by c.args.plant.now c.args.slot c.requires.slot).ends)

pub returns : goal.returns
returns c =
    let task : c.get-task.result.now ≡ task_in c.args.plant.now c.args.slot = task-is c.args.plant.now c.args.slot c.get-run.result.now c.get-task.result.now c.requires.sound c.requires.slot c.get-run.ensures c.get-task.ensures in
    machine-profit c.args.plant.now c.args.slot c.get-task.result.now c.outputs_worth.result c.inputs_worth.result c.each_costs.result task
    c.outputs_worth.ensures.value c.outputs_worth.ensures.small c.inputs_worth.ensures.value c.inputs_worth.ensures.small c.each_costs.ensures.value c.each_costs.ensures.small

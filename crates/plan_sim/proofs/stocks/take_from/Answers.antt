use Rattle.std.proofs.Common.{◌+◌, ◌<◌, ◌≤◌, ◌^◌, length, sum_by, ◌∙◌, ap, arith}
use Rattle.std.proofs.lemmas.List.Elements.{All-same}
use Rattle.stn_model.specs.declared.plant.Task.{Task}
use Rattle.plan_sim.specs.Moves.{HasRow}
use Rattle.stn_model.specs.Plant.{task_at}
use Rattle.stn_model.proofs.Small.{inputs_small}
use Rattle.stn_model.specs.Stock.{taken, taken_by}
use Rattle.plan_sim.proofs.Placed.{nothing_taken, task_sound, inputs_few, inputs_rows}
use Rattle.plan_sim.proofs.stocks.take_from.Goals as goal

pub add_inputs-requires-clause-rows : goal.add_inputs-requires-clause-rows
add_inputs-requires-clause-rows c =
    let there : c.args.start.now.task < length c.args.plant.now.tasks = omega arith in
    All-same (λ move. HasRow c.args.cells.now (c.args.plant.now.periods + 1) move.state) _ _ (c.as_slice.ensures ∙ ap (λ (t : Task). t.inputs) c.task_of-task.ensures)
    (inputs_rows c.args.plant.now c.args.start.now c.requires.sound there c.args.cells.now c.requires.size)

pub add_inputs-requires-clause-small : goal.add_inputs-requires-clause-small
add_inputs-requires-clause-small c =
    let there : c.args.start.now.task < length c.args.plant.now.tasks = omega arith in
    All-same (λ move. move.amount ≤ 2 ^ 20) _ _ (c.as_slice.ensures ∙ ap (λ (t : Task). t.inputs) c.task_of-task.ensures)
    (inputs_small c.args.plant.now (task_at c.args.plant.now c.args.start.now.task) (task_sound c.args.plant.now c.args.start.now c.requires.sound there))

pub add_inputs-requires-clause-few : goal.add_inputs-requires-clause-few
add_inputs-requires-clause-few c =
    let there : c.args.start.now.task < length c.args.plant.now.tasks = omega arith in
    omega (arith, ap length (c.as_slice.ensures ∙ ap (λ (t : Task). t.inputs) c.task_of-task.ensures), inputs_few c.args.plant.now c.args.start.now c.requires.sound there)

pub returns-then-len-start-clause-moved : goal.returns-then-len-start-clause-moved
returns-then-len-start-clause-moved c = λ s t h. omega (arith, nothing_taken c.args.plant.now c.args.start.now (omega arith) s t)

pub returns-clause-moved : goal.returns-clause-moved
unfolding taken
returns-clause-moved c = λ s t h.
    let all = ap (sum_by (taken_by s t c.args.start.now)) (c.as_slice.ensures ∙ ap (λ (k : Task). k.inputs) c.task_of-task.ensures) in
    omega (arith, c.add_inputs.ensures.moved s t h, all)

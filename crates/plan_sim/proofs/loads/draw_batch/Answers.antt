use Rattle.std.proofs.Common.{◌≡◌, ◌<◌, ◌≤◌, ◌^◌, ℕ, List, length, ◌∙◌, ap, arith, min}
use Rattle.std.specs.Prelude.{All}
use Rattle.std.proofs.lemmas.List.Elements.{All-same}
use Rattle.stn_model.specs.declared.plant.Task.{Task}
use Rattle.stn_model.specs.declared.plant.Draw.{Draw}
use Rattle.stn_model.specs.Plant.{task_at, end_of}
use Rattle.plan_sim.specs.Moves.{HasRow, drawn_until}
use Rattle.plan_sim.proofs.Placed.{draws_few, draws_rows, draws_fixed, draws_each, ends_no_earlier}
use Rattle.plan_sim.proofs.Rows.{drawn_cut, drawn_later, nothing_drawn}
use Rattle.plan_sim.proofs.loads.draw_batch.Goals as goal

pub draw_task-requires-clause-few : goal.draw_task-requires-clause-few
draw_task-requires-clause-few c =
    let there : c.args.start.now.task < length c.args.plant.now.tasks = omega arith in
    omega (arith, ap length (c.as_slice.ensures ∙ ap (λ (t : Task). t.draws) c.task_of-task.ensures), draws_few c.args.plant.now c.args.start.now c.requires.sound there)

pub draw_task-requires-clause-begun : goal.draw_task-requires-clause-begun
draw_task-requires-clause-begun c = omega (arith, c.last_end-last.ensures, ends_no_earlier c.args.plant.now c.args.start.now)

pub draw_task-requires-clause-rows : goal.draw_task-requires-clause-rows
draw_task-requires-clause-rows c =
    let there : c.args.start.now.task < length c.args.plant.now.tasks = omega arith in
    All-same (λ draw. HasRow c.args.cells.now c.args.plant.now.periods draw.utility) _ _ (c.as_slice.ensures ∙ ap (λ (t : Task). t.draws) c.task_of-task.ensures) (draws_rows c.args.plant.now c.args.start.now c.requires.sound there c.args.cells.now c.requires.size)

pub draw_task-requires-clause-fixed : goal.draw_task-requires-clause-fixed
draw_task-requires-clause-fixed c =
    let there : c.args.start.now.task < length c.args.plant.now.tasks = omega arith in
    All-same (λ draw. All (λ amount. amount ≤ 2 ^ 20) draw.fixed) _ _ (c.as_slice.ensures ∙ ap (λ (t : Task). t.draws) c.task_of-task.ensures) (draws_fixed c.args.plant.now c.args.start.now c.requires.sound there)

pub draw_task-requires-clause-each : goal.draw_task-requires-clause-each
draw_task-requires-clause-each c =
    let there : c.args.start.now.task < length c.args.plant.now.tasks = omega arith in
    All-same (λ draw. All (λ amount. amount ≤ 2 ^ 20) draw.each) _ _ (c.as_slice.ensures ∙ ap (λ (t : Task). t.draws) c.task_of-task.ensures) (draws_each c.args.plant.now c.args.start.now c.requires.sound there)

pub draw_task-requires-clause-within : goal.draw_task-requires-clause-within
draw_task-requires-clause-within c = omega (arith, c.last_end-last.ensures)

pub returns-then-len-start-clause-drawn : goal.returns-then-len-start-clause-drawn
returns-then-len-start-clause-drawn c = λ u p h. omega (arith, nothing_drawn c.args.plant.now c.args.start.now u p (omega arith))

pub returns-then-plant-start-clause-drawn : goal.returns-then-plant-start-clause-drawn
returns-then-plant-start-clause-drawn c = λ u p h. omega (arith, drawn_later c.args.plant.now c.args.start.now u p (omega arith))

pub returns-clause-drawn : goal.returns-clause-drawn
returns-clause-drawn c = λ u p h.
    let draws : c.as_slice.result.now ≡ (task_at c.args.plant.now c.args.start.now.task).draws = c.as_slice.ensures ∙ ap (λ (t : Task). t.draws) c.task_of-task.ensures in
    let same : drawn_until c.as_slice.result.now c.args.start.now c.last_end-last.result u p ≡ drawn_until (task_at c.args.plant.now c.args.start.now.task).draws c.args.start.now (min (end_of c.args.plant.now c.args.start.now) c.args.plant.now.periods) u p =
    ap (λ (xs : List Draw). drawn_until xs c.args.start.now c.last_end-last.result u p) draws ∙ ap (λ (e : ℕ). drawn_until (task_at c.args.plant.now c.args.start.now.task).draws c.args.start.now e u p) c.last_end-last.ensures in
    omega (arith, c.draw_task.ensures.drawn u p h, same, drawn_cut c.args.plant.now c.args.start.now u p c.args.plant.now.periods h)

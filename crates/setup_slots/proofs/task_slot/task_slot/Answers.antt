-- The batch of a slot ends by the horizon.
use Rattle.std.proofs.Common.{◌≡◌, ◌<◌, length, sym, ap, ◌∙◌, arith, subst}
use Rattle.std.proofs.lemmas.List.{get_or_default}
use Rattle.stn_model.specs.declared.plant.Run.{Run}
use Rattle.stn_model.specs.declared.plant.Task.{Task}
use Rattle.stn_model.specs.Plant.{duration_of, no_run, no_task, run_at, task_at}
use Rattle.setup_slots.proofs.Ends.{slot-ends}
use Rattle.setup_slots.proofs.task_slot.task_slot.Goals as goal

pub overflow_add-result : goal.overflow_add-result
overflow_add-result c =
    let plant = c.args.plant.now in
    let slot = c.args.slot in
    let run : c.get-run.result.now ≡ run_at plant slot.0 = c.get-run.ensures ∙ get_or_default _ _ _ no_run c.requires.slot.run in
    let there : (run_at plant slot.0).task < length plant.tasks = (c.requires.sound.runs slot.0 no_run c.requires.slot.run).task in
    let less : c.get-run.result.now.task < length plant.tasks = subst (λ (r : Run). r.task < length plant.tasks) (sym run) there in
    let task : c.get-task.result.now ≡ task_at plant (run_at plant slot.0).task = c.get-task.ensures ∙ get_or_default _ _ _ no_task less ∙ ap (λ (r : Run). task_at plant r.task) run in
    let long : c.duration.result ≡ duration_of (task_at plant (run_at plant slot.0).task) = c.duration.ensures ∙ ap (λ (t : Task). duration_of t) task in
    let ends = slot-ends plant slot c.requires.slot in
    let few = c.requires.sound.counts.periods.1 in
    omega (arith, long, ends, few)

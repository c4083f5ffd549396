-- One more task, and all.
use Rattle.std.proofs.Common.{◌≡◌, filter, length, sym, ap, ◌∙◌, arith}
use Rattle.std.specs.List.{list_any, range_with_len}
use Rattle.setup_slots.specs.Slots.{has_slots, is_of, setup_tasks}
use Rattle.setup_slots.proofs.Growing.{kept-more, left-more}
use Rattle.setup_slots.proofs.slots.setup_tasks.Goals as goal
use Rattle.setup_slots.proofs.slots.setup_tasks.Goals.{then-has_slots+in_ok-push, else-has_slots}

pub loop-task-preserved : goal.loop-task-preserved
loop-task-preserved c =
    let p = has_slots c.args.plant.now c.args.unit in
    let is : c.has_slots.result ≡ p c.loop-task.task = c.has_slots.ensures ∙ ap (list_any (is_of c.args.unit c.loop-task.task)) c.requires.slots in
    elim c.if-has_slots.branch [
      | then-has_slots+in_ok-push w ↦ ap (λ v. v.items) w.tasks-is
          ∙ kept-more p c.loop-task.task c.loop-task.tasks.items w.push.new.self.items (sym is ∙ w.if-has_slots.true) c.loop-task.invariant w.in_ok-push.ensures.items
      | else-has_slots w ↦ ap (λ v. v.items) w.tasks-is ∙ left-more p c.loop-task.task c.loop-task.tasks.items (sym is ∙ w.if-has_slots.false) c.loop-task.invariant
    ]

pub returns : goal.returns
unfolding setup_tasks
returns c =
    let long = c.len-task-end.ensures in
    let few = c.requires.few in
    let e : c.loop-task.task ≡ length c.args.plant.now.tasks = omega (arith, long, few) in
    c.loop-task.invariant ∙ ap (λ n. filter (has_slots c.args.plant.now c.args.unit) (range_with_len 0 n)) e

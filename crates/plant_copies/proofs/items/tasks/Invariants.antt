use Rattle.std.proofs.Common.{◌≡◌, take}
use Rattle.plant_copies.proofs.items.tasks.Given as goal

abbrev pub invariant-loop-task : goal.invariant-loop-task
invariant-loop-task l = l.list ≡ take l.task-index l.tasks

-- The rows, and those of the tasks so far.
use Rattle.std.proofs.Common.{◌≡◌, ◌++◌, take}
use Rattle.std.specs.List.{flat_map}
use Rattle.setup_slots.specs.Rows.{held_rows}
use Rattle.setup_slots.proofs.rows.push_held.Given as goal

abbrev pub invariant-loop-task : goal.invariant-loop-task
invariant-loop-task l = l.rows.items ≡ l.initial.rows.items ++ flat_map (held_rows l.periods) (take l.task-index l.tasks)

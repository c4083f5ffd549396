-- The rows, and those of the tasks so far.
use Rattle.std.proofs.Common.{◌≡◌, ◌++◌, take}
use Rattle.std.specs.List.{flat_map}
use Rattle.setup_slots.specs.Rows.{begun_rows}
use Rattle.setup_slots.proofs.rows.push_begun.Given as goal

abbrev pub invariant-loop-task : goal.invariant-loop-task
invariant-loop-task l = l.rows.items ≡ l.initial.rows.items ++ flat_map (begun_rows l.setups l.periods) (take l.task-index l.tasks)

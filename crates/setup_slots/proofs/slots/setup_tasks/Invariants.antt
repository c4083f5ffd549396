-- The tasks so far that have slots on the unit.
use Rattle.std.proofs.Common.{◌≡◌, filter}
use Rattle.std.specs.List.{range_with_len}
use Rattle.setup_slots.specs.Slots.{has_slots}
use Rattle.setup_slots.proofs.slots.setup_tasks.Given as goal

abbrev pub invariant-loop-task : goal.invariant-loop-task
invariant-loop-task l = l.tasks.items ≡ filter (has_slots l.plant l.unit) (range_with_len 0 l.task)

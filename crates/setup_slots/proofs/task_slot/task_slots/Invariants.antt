-- The slots so far.
use Rattle.std.proofs.Common.{◌≡◌, map, take}
use Rattle.setup_slots.specs.Slots.{task_slot}
use Rattle.setup_slots.proofs.task_slot.task_slots.Given as goal

abbrev pub invariant-loop-place : goal.invariant-loop-place
invariant-loop-place l = l.found.items ≡ map (task_slot l.plant) (take l.place l.grid)

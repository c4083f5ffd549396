-- The slots, and those of the tasks so far.
use Rattle.std.proofs.Common.{◌≡◌, ◌++◌, map, take}
use Rattle.setup_slots.specs.declared.setup.SetupSlot.TheVariants.{First}
use Rattle.setup_slots.proofs.slots.push_firsts.Given as goal

abbrev pub invariant-loop-task : goal.invariant-loop-task
invariant-loop-task l = l.setups.items ≡ l.initial.setups.items ++ map First (take l.task-index l.tasks)

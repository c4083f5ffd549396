-- The slots, and the changes to the tasks so far.
use Rattle.std.proofs.Common.{◌≡◌, ◌++◌, take}
use Rattle.std.specs.List.{flat_map}
use Rattle.setup_slots.specs.Slots.{changes_between}
use Rattle.setup_slots.proofs.slots.push_changes_from.Given as goal

abbrev pub invariant-loop-to : goal.invariant-loop-to
invariant-loop-to l = l.setups.items ≡ l.initial.setups.items ++ flat_map (changes_between l.plant l.unit l.from) (take l.to-index l.tasks)

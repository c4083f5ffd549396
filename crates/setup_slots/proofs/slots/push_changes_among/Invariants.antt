-- The slots, and the changes from the tasks so far.
use Rattle.std.proofs.Common.{◌≡◌, ◌++◌, take}
use Rattle.std.specs.List.{flat_map}
use Rattle.setup_slots.specs.Slots.{changes_between}
use Rattle.setup_slots.proofs.slots.push_changes_among.Given as goal

abbrev pub invariant-loop-from : goal.invariant-loop-from
invariant-loop-from l = l.setups.items ≡ l.initial.setups.items ++ flat_map (λ from. flat_map (changes_between l.plant l.unit from) l.tasks) (take l.from-index l.tasks)

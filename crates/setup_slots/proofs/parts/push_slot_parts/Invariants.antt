-- What was there, and the parts of the slots so far.
use Rattle.std.proofs.Common.{◌≡◌, ◌++◌, map, take}
use Rattle.setup_slots.specs.Rows.{fixed_part, slot_part}
use Rattle.setup_slots.proofs.parts.push_slot_parts.Given as goal

abbrev pub invariant-loop-slot : goal.invariant-loop-slot
invariant-loop-slot l = l.parts.items ≡ l.initial.parts.items ++ map (λ s. fixed_part (slot_part l.unit l.row s)) (take l.slot-index l.slots)

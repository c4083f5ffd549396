-- What was there, and the profits of the slots so far.
use Rattle.std.proofs.Common.{◌≡◌, ◌++◌, map, take}
use Rattle.setup_slots.specs.Rows.{fixed_part, setup_profit}
use Rattle.setup_slots.proofs.parts.push_profits.Given as goal

abbrev pub invariant-loop-slot : goal.invariant-loop-slot
invariant-loop-slot l = l.parts.items ≡ l.initial.parts.items ++ map (λ s. fixed_part (setup_profit l.plant l.unit s)) (take l.slot-index l.setups)

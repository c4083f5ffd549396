-- What was there, and as many parts of 0 as slots so far.
use Rattle.std.proofs.Common.{◌≡◌, ◌++◌, pos, replicate}
use Rattle.setup_slots.specs.Rows.{fixed_part}
use Rattle.setup_slots.proofs.parts.push_nothing.Given as goal

abbrev pub invariant-loop-slot : goal.invariant-loop-slot
invariant-loop-slot l = l.parts.items ≡ l.initial.parts.items ++ replicate l._slot (fixed_part (pos 0))

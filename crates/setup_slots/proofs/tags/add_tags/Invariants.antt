-- The tags, and those of the slots so far.
use Rattle.std.proofs.Common.{◌≡◌, ◌++◌, map, take}
use Rattle.setup_slots.specs.Larger.{setup_tag}
use Rattle.setup_slots.proofs.tags.add_tags.Given as goal

abbrev pub invariant-loop-slot : goal.invariant-loop-slot
invariant-loop-slot l = l.tags ≡ l.initial.tags ++ map (λ s. setup_tag l.lane) (take l._slot-index l.setups)

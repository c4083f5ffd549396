-- The root, and the domains of the slots so far.
use Rattle.std.proofs.Common.{◌≡◌, ◌++◌, map, take}
use Rattle.setup_slots.specs.Larger.{setup_domain}
use Rattle.setup_slots.proofs.tags.add_domains.Given as goal

abbrev pub invariant-loop-slot : goal.invariant-loop-slot
invariant-loop-slot l = l.root ≡ l.initial.root ++ map (λ s. setup_domain) (take l._slot-index l.setups)

use Rattle.std.proofs.Common.{◌≡◌, take}
use Rattle.plant_copies.proofs.items.states.Given as goal

abbrev pub invariant-loop-state : goal.invariant-loop-state
invariant-loop-state l = l.list ≡ take l.state-index l.states

use Rattle.std.proofs.Common.{◌≡◌, take}
use Rattle.plant_copies.proofs.items.draws.Given as goal

abbrev pub invariant-loop-draw : goal.invariant-loop-draw
invariant-loop-draw l = l.list ≡ take l.draw-index l.draws

use Rattle.std.proofs.Common.{◌≡◌, map, take}
use Rattle.row_set.specs.PlantProgram.{slot_domain}
use Rattle.row_set.proofs.parts.root_of.Given as goal

abbrev pub invariant-loop-place : goal.invariant-loop-place
invariant-loop-place l = l.root.items ≡ map (slot_domain l.plant) (take l.place l.grid)

use Rattle.std.proofs.Common.{◌≡◌, map, take}
use Rattle.row_set.specs.PlantProgram.{slot_tag}
use Rattle.row_set.proofs.parts.tags_of.Given as goal

abbrev pub invariant-loop-place : goal.invariant-loop-place
invariant-loop-place l = l.tags.items ≡ map (slot_tag l.plant) (take l.place l.grid)

use Rattle.std.proofs.Common.{◌≡◌, map, filter, take}
use Rattle.row_set.specs.PlantProgram.{gap_change, has_cost}
use Rattle.row_set.proofs.parts.changes_of.Given as goal

abbrev pub invariant-loop-gap : goal.invariant-loop-gap
invariant-loop-gap l = l.changes.items ≡ map gap_change (filter has_cost (take l.gap-index l.gap-items))

-- The first domains are cut.
use Rattle.std.proofs.Common.{◌≡◌}
use Rattle.plant_parts.proofs.Cutting.{cut_first}
use Rattle.plant_parts.proofs.parting.cut_root.Given as goal

abbrev pub invariant-loop-place : goal.invariant-loop-place
invariant-loop-place l = l.root.items ≡ cut_first l.levels l.part l.whole l.place

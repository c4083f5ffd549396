use Rattle.std.proofs.Common.{◌≡◌, map, take}
use Rattle.stn_model.specs.Plant.{run_at}
use Rattle.unit_rows.specs.Gaps.{gap_after}
use Rattle.unit_rows.proofs.gaps.fill_gaps.Given as goal

abbrev pub invariant-loop-second : goal.invariant-loop-second
invariant-loop-second l = take l.second l.gaps ≡ map (gap_after l.plant (run_at l.plant l.run)) (take l.second l.plant.runs)

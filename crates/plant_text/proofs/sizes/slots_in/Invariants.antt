use Rattle.std.proofs.Common.{◌≡◌, ◌≤◌}
use Rattle.stn_model.specs.Sums.{count_below}
use Rattle.stn_model.specs.Points.{has_slot}
use Rattle.plant_text.proofs.sizes.slots_in.Given as goal

abbrev pub invariant-loop-period : goal.invariant-loop-period
invariant-loop-period l = record { counted : l.count ≡ count_below (has_slot l.plant l.run) l.period; small : l.count ≤ l.period }

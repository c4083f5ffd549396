use Rattle.std.proofs.Common.{◌≡◌, ◌≤◌}
use Rattle.stn_model.specs.Sums.{count_below}
use Rattle.stn_model.specs.Points.{meets_gap}
use Rattle.plant_text.proofs.sizes.pairs_at.Given as goal

abbrev pub invariant-loop-next : goal.invariant-loop-next
invariant-loop-next l = record { counted : l.count ≡ count_below (meets_gap l.plant l.a l.period l.b) l.next; small : l.count ≤ l.next }

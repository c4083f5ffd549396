use Rattle.std.proofs.Common.{◌≡◌, ◌≤◌, ◌*◌}
use Rattle.stn_model.specs.Sums.{count_below, sum_below}
use Rattle.stn_model.specs.Points.{meets_gap}
use Rattle.plant_text.proofs.sizes.pairs_of.Given as goal

abbrev pub invariant-loop-period : goal.invariant-loop-period
invariant-loop-period l = record { counted : l.count ≡ sum_below (λ p. count_below (meets_gap l.plant l.a p l.b) l.plant.periods) l.period; small : l.count ≤ 336 * l.period }

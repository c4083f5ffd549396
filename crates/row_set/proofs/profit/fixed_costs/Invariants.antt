use Rattle.std.proofs.Common.{◌≡◌, take}
use Rattle.stn_model.specs.Sums.{total}
use Rattle.row_set.specs.ProfitParts.{fixed_cost}
use Rattle.row_set.proofs.profit.fixed_costs.Given as goal

abbrev pub invariant-loop-draw : goal.invariant-loop-draw
invariant-loop-draw l = l.sum ≡ total (fixed_cost l.plant l.period) (take l.draw-index l.draw-items)

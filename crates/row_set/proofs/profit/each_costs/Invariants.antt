use Rattle.std.proofs.Common.{◌≡◌, take}
use Rattle.stn_model.specs.Sums.{total}
use Rattle.row_set.specs.ProfitParts.{each_cost}
use Rattle.row_set.proofs.profit.each_costs.Given as goal

abbrev pub invariant-loop-draw : goal.invariant-loop-draw
invariant-loop-draw l = l.sum ≡ total (each_cost l.plant l.period) (take l.draw-index l.draw-items)

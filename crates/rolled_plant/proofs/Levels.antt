-- The stock before a time, in a table of stocks.
use Rattle.std.proofs.Common.{◌≡◌, ℕ, zero, suc, ◌-◌, ◌<◌, ◌≤◌, List, length, ap, ◌∙◌, arith}
use Rattle.std.specs.Prelude.{ℤ, pos, ◌-ℤ◌}
use Rattle.stn_model.specs.declared.plant.Plant.{Plant}
use Rattle.stn_model.specs.declared.start.Start.{Start}
use Rattle.stn_model.specs.Stock.{stock}
use Rattle.plan_sim.specs.Faults.{level}
use Rattle.plan_sim.specs.Tables.{IsStockTable}
use Rattle.rolled_plant.specs.Begin.{inflow_before, outflow_before}

-- the stock before a time is that at the time before
pub level_later : (plant : Plant) (before : List Start) (stocks : List ℤ) (state time : ℕ) → IsStockTable plant before stocks → state < length plant.states → 0 < time → time ≤ plant.periods
    → level plant stocks state (time - 1) ≡ pos (inflow_before plant before state time) -ℤ pos (outflow_before plant before state time)
unfolding stock
level_later plant before stocks state zero table there later within = absurd (omega arith)
level_later plant before stocks state (suc time) table there later within =
    let e : suc time - 1 ≡ time = omega arith in
    ap (level plant stocks state) e ∙ table.level state time there (omega arith)

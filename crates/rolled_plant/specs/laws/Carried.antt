-- What has been carried out before a period. Only clauses of private functions cite it.
use Rattle.std.specs.Prelude.{◌≤◌, ◌<◌, ◌^◌, All, unsigned_abs}
use Rattle.stn_model.specs.Sound.{Sound}
use Rattle.plan_sim.specs.Tables.{IsStockTable}
use Rattle.rolled_plant.specs.declared.carried.Carried.{Carried}

-- the starts are before the period, which is one of the plant, and the table is that of the stocks that they leave
pub record IsCarried (carried : Carried) : Type 0 where
  pub sound : Sound carried.plant.now
  pub earlier : All (λ start. start.period < carried.period) carried.before.now
  pub within : carried.period < carried.plant.now.periods
  pub table : IsStockTable carried.plant.now carried.before.now carried.stocks.now
  pub small : All (λ level. unsigned_abs level ≤ 2 ^ 90) carried.stocks.now

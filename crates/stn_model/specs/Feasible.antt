-- When the plant can carry out a plan.
use Rattle.std.specs.Prelude.{ℕ, pos, ◌<◌, ◌≤◌, ◌≤ℤ◌, IfSome, List, length, All, AllPairs, slice_get, slice_index}
use Rattle.stn_model.specs.declared.plant.Plant.{Plant}
use Rattle.stn_model.specs.declared.start.Start.{Start}
use Rattle.stn_model.specs.Plant.{state_at, utility_at}
use Rattle.stn_model.specs.Fits.{Fits}
use Rattle.stn_model.specs.Batches.{Apart, Cleaned, Begun}
use Rattle.stn_model.specs.Stock.{stock}
use Rattle.stn_model.specs.Load.{load}

-- the stock lies between 0 and the state's limit at the time, where it has limits
pub record StockKept (plant : Plant) (plan : List Start) (state time : ℕ) : Type 0 where
  pub low : pos 0 ≤ℤ stock plant plan state time
  pub high : IfSome (slice_get (state_at plant state).limits time) (λ limit. stock plant plan state time ≤ℤ pos limit)

-- the load is at most the utility's limit in the period
abbrev pub LoadKept : Plant → List Start → ℕ → ℕ → Type 0
LoadKept plant plan utility period = load plant plan utility period ≤ slice_index (utility_at plant utility).limits period

-- A plan is feasible: each start fits, no two batches meet on a unit, units are cleaned, first batches wait for those that
-- held their units last, and stocks and loads are kept.
pub record Feasible (plant : Plant) (plan : List Start) : Type 0 where
  pub fits : All (Fits plant) plan
  pub apart : AllPairs (Apart plant) plan
  pub cleaned : All (λ a. All (Cleaned plant plan a) plan) plan
  pub begun : All (Begun plant plan) plan
  pub stocks : (state time : ℕ) → state < length plant.states → time ≤ plant.periods → StockKept plant plan state time
  pub loads : (utility period : ℕ) → utility < length plant.utilities → period < plant.periods → LoadKept plant plan utility period

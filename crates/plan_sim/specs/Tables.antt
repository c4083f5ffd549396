-- Tables of the stocks and the loads of a plan.
use Rattle.std.specs.Prelude.{◌-ℤ◌, ◌≡◌, ℕ, ℤ, pos, ◌+◌, ◌*◌, ◌<◌, ◌≤◌, List, length, sum_by, slice_index, slice_index_or}
use Rattle.stn_model.specs.declared.plant.Plant.{Plant}
use Rattle.stn_model.specs.declared.start.Start.{Start}
use Rattle.stn_model.specs.Stock.{stock, received, given, delivered, taken}
use Rattle.stn_model.specs.Load.{load}
use Rattle.plan_sim.specs.Moves.{summed}

-- what has come into a state by a time: from outside, and from the batches
abbrev pub arrived : Plant → List Start → ℕ → ℕ → ℕ
arrived plant plan state time = received plant state time + sum_by (given plant state time) plan

-- what has gone out of a state by a time: to customers, and into the batches
abbrev pub departed : Plant → List Start → ℕ → ℕ → ℕ
departed plant plan state time = delivered plant state time + sum_by (taken plant state time) plan

-- what a table of moves sums to up to each time is what flows at each state by then
abbrev pub SumsTo : Plant → List ℕ → (ℕ → ℕ → ℕ) → Type 0
SumsTo plant cells flow = (state time : ℕ) → time < plant.periods + 1 → summed cells (plant.periods + 1) state time ≡ flow state time

-- the table has the stock of each state at each time, state by state
pub record IsStockTable (plant : Plant) (plan : List Start) (stocks : List ℤ) : Type 0 where
  pub size : length stocks ≡ length plant.states * (plant.periods + 1)
  pub level : (state time : ℕ) → state < length plant.states → time ≤ plant.periods → slice_index_or stocks (state * (plant.periods + 1) + time) (pos 0) ≡ stock plant plan state time

-- Levels have been put at the end of a list: those of a state's stock at the first times, which begins
-- with an amount, after what has arrived and departed up to each.
pub record AddsLevels (old new : List ℤ) (opening width state times : ℕ) (arrived departed : List ℕ) : Type 0 where
  pub size : length new ≡ length old + times
  pub kept : (place : ℕ) → place < length old → slice_index_or new place (pos 0) ≡ slice_index_or old place (pos 0)
  pub levels : (time : ℕ) → time < times → slice_index_or new (length old + time) (pos 0) ≡ pos (opening + summed arrived width state time) -ℤ pos (summed departed width state time)

-- the table has the load of each utility in each period, utility by utility
pub record IsLoadTable (plant : Plant) (plan : List Start) (loads : List ℕ) : Type 0 where
  pub size : length loads ≡ length plant.utilities * plant.periods
  pub level : (utility period : ℕ) → utility < length plant.utilities → period < plant.periods → slice_index loads (utility * plant.periods + period) ≡ load plant plan utility period

-- The starts of a plan before a period, and those from it on.
use Rattle.std.specs.Prelude.{ℕ, ◌+◌, ◌-◌, ◌<◌, nat_lt, not, Bool, List, length, All, AllPairs, map, filter, ◌++◌}
use Rattle.stn_model.specs.declared.plant.Plant.{Plant}
use Rattle.stn_model.specs.declared.start.Start.{Start}
use Rattle.stn_model.specs.Fits.{Fits}
use Rattle.stn_model.specs.Batches.{Apart, Cleaned, Begun}
use Rattle.stn_model.specs.Feasible.{StockKept, LoadKept}

-- the start is before the period
abbrev pub is_before : ℕ → Start → Bool
is_before period start = nat_lt start.period period

-- the starts of a plan before the period, which frozen_plan has as kept_starts, with the period first
unfoldable pub kept : List Start → ℕ → List Start
kept plan period = filter (is_before period) plan

-- the start with its period counted from a later one
abbrev pub sooner : ℕ → Start → Start
sooner period start = record start { period = start.period - period }

-- the starts of a plan from the period on, with their periods counted from it
unfoldable pub moved : List Start → ℕ → List Start
moved plan period = map (sooner period) (filter (λ start. not (is_before period start)) plan)

-- the start so many periods later
abbrev pub later : ℕ → Start → Start
later period start = record start { period = period + start.period }

-- the starts before the period, and behind them those of a plan whose periods are counted from it
abbrev pub joined : List Start → ℕ → List Start → List Start
joined before period plan = before ++ map (later period) plan

-- Starts before a period break nothing that no later start mends: they fit, keep apart and are cleaned, first ones are not too
-- early, stocks are kept at the times before the period, and loads in all periods.
pub record IsMendable (plant : Plant) (before : List Start) (period : ℕ) : Type 0 where
  pub earlier : All (λ start. start.period < period) before
  pub fits : All (Fits plant) before
  pub apart : AllPairs (Apart plant) before
  pub cleaned : All (λ a. All (Cleaned plant before a) before) before
  pub begun : All (Begun plant before) before
  pub stocks : (state time : ℕ) → state < length plant.states → time < period → StockKept plant before state time
  pub loads : (utility time : ℕ) → utility < length plant.utilities → time < plant.periods → LoadKept plant before utility time

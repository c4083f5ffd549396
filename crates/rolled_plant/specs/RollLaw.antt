-- What plans of the rolled plant are to the plant.
use Rattle.std.specs.Prelude.{◌≡◌, ℕ, ◌+◌, ℤ, ◌+ℤ◌, ◌-ℤ◌, ◌<◌, ◌↔◌, Option, option_map, List, []}
use Rattle.stn_model.specs.declared.plant.Plant.{Plant}
use Rattle.stn_model.specs.declared.plant.Moment.{Moment}
use Rattle.stn_model.specs.declared.start.Start.{Start}
use Rattle.stn_model.specs.Feasible.{Feasible}
use Rattle.stn_model.specs.Profit.{profit}
use Rattle.stn_model.specs.Sound.{Sound}
use Rattle.plant_labels.specs.Clock.{moment_at}
use Rattle.rolled_plant.specs.Kept.{kept, moved, joined, IsMendable}
use Rattle.rolled_plant.specs.RolledPlant.{rolled_plant}

-- what the starts alone earn on the plant, less what the rolled plant earns without a start
unfoldable pub earned_before : Plant → List Start → ℕ → ℤ
earned_before plant before period = profit plant before -ℤ profit (rolled_plant plant before period) []

-- A plan of the rolled plant is feasible exactly where the plant carries it out from the period on, behind the starts before; and
-- there it earns what it earns on the rolled plant, and what was earned before.
pub record GoesOnWith (plant : Plant) (before : List Start) (period : ℕ) (plan : List Start) : Type 0 where
  pub feasible : Feasible (rolled_plant plant before period) plan ↔ Feasible plant (joined before period plan)
  pub earns : profit plant (joined before period plan) ≡ profit (rolled_plant plant before period) plan +ℤ earned_before plant before period

-- So it is for all plans, where a sound plant is rolled to a period before its horizon, and the starts before break nothing that no
-- later start mends.
abbrev pub RollLaw : Type 0
RollLaw = (plant : Plant) (before : List Start) (period : ℕ) → Sound plant → period < plant.periods
    → IsMendable plant before period → (plan : List Start) → GoesOnWith plant before period plan

-- What is left of a plan is feasible on the rolled plant exactly where the plan is on the plant, whatever the order of its starts;
-- and the plan earns what its rest earns there, and what was earned before.
pub record RestGoesOn (plant : Plant) (plan : List Start) (period : ℕ) : Type 0 where
  pub feasible : Feasible (rolled_plant plant (kept plan period) period) (moved plan period) ↔ Feasible plant plan
  pub earns : profit plant plan ≡ profit (rolled_plant plant (kept plan period) period) (moved plan period) +ℤ earned_before plant (kept plan period) period

-- So it is for all plans of which the starts before the period break nothing that no later start mends.
abbrev pub RestLaw : Type 0
RestLaw = (plant : Plant) (plan : List Start) (period : ℕ) → Sound plant → period < plant.periods
    → IsMendable plant (kept plan period) period → RestGoesOn plant plan period

-- what the clock shows at a time of the plant, where it has a calendar
abbrev pub date_at : Plant → ℕ → Option Moment
date_at plant time = option_map (λ calendar. moment_at calendar time) plant.calendar

-- The rolled plant shows at each time what the plant shows so many periods later.
abbrev pub DateLaw : Type 0
DateLaw = (plant : Plant) (before : List Start) (period : ℕ) → Sound plant → (time : ℕ) → date_at (rolled_plant plant before period) time ≡ date_at plant (period + time)

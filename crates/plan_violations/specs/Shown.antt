-- What a table of stocks and a table of loads show of what a plan breaks.
use Rattle.std.specs.Prelude.{◌≡◌, ◌≤◌, ℕ, ℤ, ◌+◌, ◌*◌, ◌^◌, nat_lt, if◌then◌else◌, List, [], ◌++◌, length, All, unsigned_abs}
use Rattle.stn_model.specs.declared.plant.Plant.{Plant}
use Rattle.plan_sim.specs.Faults.{level, used}
use Rattle.plan_violations.specs.declared.breach.Breach.{Breach}
use Rattle.plan_violations.specs.Breaches.{of_level, of_load}
use Rattle.plan_violations.specs.Lists.{listed_below}

-- a table has a level for each state and time, none of which is far from 0
pub record AreLevels (plant : Plant) (stocks : List ℤ) : Type 0 where
  pub size : length stocks ≡ length plant.states * (plant.periods + 1)
  pub small : All (λ level. unsigned_abs level ≤ 2 ^ 90) stocks

-- what the stock of a state in a table breaks at a time
unfoldable pub level_shown : Plant → List ℤ → ℕ → ℕ → List Breach
level_shown plant stocks time state = of_level plant time state (level plant stocks state time)

-- what the load of a utility in a table breaks in a period
unfoldable pub use_shown : Plant → List ℕ → ℕ → ℕ → List Breach
use_shown plant loads period utility = of_load plant period utility (used plant loads utility period)

-- what the stocks break at a time, and the loads in the period that begins there
unfoldable pub amounts_shown : Plant → List ℤ → List ℕ → ℕ → List Breach
amounts_shown plant stocks loads time =
    listed_below (level_shown plant stocks time) (length plant.states)
    ++ (if nat_lt time plant.periods then listed_below (use_shown plant loads time) (length plant.utilities) else [])

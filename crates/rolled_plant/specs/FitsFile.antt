-- When the rolled plant can be written as a plant file.
use Rattle.std.specs.Prelude.{ℕ, ◌≤◌, IfSome, Option, List}
use Rattle.stn_model.specs.declared.plant.Plant.{Plant}
use Rattle.stn_model.specs.declared.plant.Calendar.{Calendar}
use Rattle.stn_model.specs.declared.start.Start.{Start}
use Rattle.rolled_plant.specs.Receipts.{AreFew}
use Rattle.rolled_plant.specs.RolledPlant.{rolled_calendar}

-- the calendar begins by the end of the year 9999, where there is one
abbrev pub BeginsInTime : Option Calendar → Type 0
BeginsInTime calendar = IfSome calendar (λ is. is.start.year ≤ 9999)

-- the rolled plant has no more receipts than a plant has at most, and its calendar begins by the end of the year 9999
pub record FitsFile (plant : Plant) (before : List Start) (period : ℕ) : Type 0 where
  pub few : AreFew plant before period
  pub in_time : BeginsInTime (rolled_calendar period plant.calendar)

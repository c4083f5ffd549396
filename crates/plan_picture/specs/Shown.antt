-- What a picture shows, where a row of steps stands, and where one of days.
use Rattle.std.specs.Prelude.{◌<◌, ◌≤◌, ◌^◌, length}
use Rattle.stn_model.specs.Labels.{SoundCalendar}
use Rattle.stn_model.specs.Sound.{Sound}
use Rattle.plan_picture.specs.declared.days.DayRow.{DayRow}
use Rattle.plan_picture.specs.declared.shown.Shown.{Shown}
use Rattle.plan_picture.specs.declared.steps.StepRow.{StepRow}

-- the plant is sound, the plan is not too long, and there are not too many rows of states
pub record IsShown (shown : Shown) : Type 0 where
  pub sound : Sound shown.plant.now
  pub few : length shown.plan.now < 2 ^ 32
  pub small : shown.states < 2 ^ 32

-- the plant is sound, the row is not too low, and its top stands for something
pub record IsStepRow (row : StepRow) : Type 0 where
  pub sound : Sound row.plant.now
  pub place : row.y ≤ 2 ^ 42
  pub some : 1 ≤ row.top
  pub most : row.top ≤ 2 ^ 127

-- the plant and its calendar are sound, the band is one of eight, and the row is not too low
pub record IsDayRow (row : DayRow) : Type 0 where
  pub sound : Sound row.plant.now
  pub calendar : SoundCalendar row.calendar.now
  pub there : row.band ≤ 7
  pub low : row.y ≤ 2 ^ 42

-- The row of days and hours below a band, where the plant has a calendar.
use Rattle.std.specs.Prelude.{ℕ, ◌+◌, ◌-◌, ◌==◌, ◌||◌, not, Bool, if◌then◌else◌, List, [], ◌++◌, Option, Some, None, codes, flat_map}
use Rattle.std.specs.List.{range_with_len}
use Rattle.stn_model.specs.declared.plant.Plant.{Plant}
use Rattle.stn_model.specs.declared.plant.Calendar.{Calendar}
use Rattle.plant_labels.specs.Clock.{moment_at, day_text, hour_text, moment_text}
use Rattle.plan_picture.specs.Marks.{words_at}
use Rattle.plan_picture.specs.Scale.{time_of, periods_in, x_at, days_top}
use Rattle.plan_picture.specs.Chart.{row_name}

-- the day of the month at a time is another than a period before, so the day is another: a period takes a week at most
abbrev pub is_new_day : Calendar → ℕ → Bool
is_new_day calendar time = not ((moment_at calendar time).day == (moment_at calendar (time - 1)).day)

-- a place tells its day: the first of a band, and each with another day of the month than the place before
abbrev pub tells_day : Calendar → ℕ → ℕ → Bool
tells_day calendar band place = place == 0 || is_new_day calendar (time_of band place)

-- the day at a place of a band, where the place tells it
unfoldable pub day_mark : Plant → Calendar → ℕ → ℕ → ℕ → List ℕ
day_mark plant calendar band y place =
    if tells_day calendar band place
    then words_at (codes "time") (x_at plant place) (y + 9) (day_text (moment_at calendar (time_of band place)))
    else []

-- the hour at a place of a band
unfoldable pub hour_mark : Plant → Calendar → ℕ → ℕ → ℕ → List ℕ
hour_mark plant calendar band y place =
    words_at (codes "time") (x_at plant place) (y + 19) (hour_text (moment_at calendar (time_of band place)))

-- the day and the hour at a place of a band
unfoldable pub clock_mark : Plant → Calendar → ℕ → ℕ → ℕ → List ℕ
clock_mark plant calendar band y place = day_mark plant calendar band y place ++ hour_mark plant calendar band y place

-- the days and hours at all places of a band
abbrev pub clock_marks : Plant → Calendar → ℕ → ℕ → List ℕ
clock_marks plant calendar band y =
    flat_map (clock_mark plant calendar band y) (range_with_len 0 (periods_in plant band + 1))

-- the row of days and hours of a band: the whole moment at which it begins, in the column of names, and the marks of all places
unfoldable pub clock_row : Plant → Calendar → ℕ → ℕ → List ℕ
clock_row plant calendar band y =
    row_name (y + 15) (moment_text (moment_at calendar (time_of band 0))) ++ clock_marks plant calendar band y

-- the row of a calendar; none where there is no calendar
abbrev pub clock_by : Plant → ℕ → ℕ → Option Calendar → List ℕ
clock_by plant band y None = []
clock_by plant band y (Some calendar) = clock_row plant calendar band y

-- the days and hours of a band with rows for so many states, below all its rows
abbrev pub days : Plant → ℕ → ℕ → List ℕ
days plant states band = clock_by plant band (days_top plant states) plant.calendar

-- How large a picture is drawn, in pixels: bands of 48 periods, one below the other, in rows of 22.
use Rattle.std.specs.Prelude.{ℕ, ◌+◌, ◌-◌, ◌*◌, ◌/◌, ◌==◌, min, max, if◌then◌else◌, length, List, Option, Some, None}
use Rattle.std.specs.Prelude.{take, drop}
use Rattle.stn_model.specs.declared.plant.Plant.{Plant}
use Rattle.stn_model.specs.declared.plant.Calendar.{Calendar}

-- how many bands the chart has: 48 periods each, and in the last what is left
abbrev pub band_count : Plant → ℕ
band_count plant = (plant.periods + 47) / 48

-- the time at a place of a band
abbrev pub time_of : ℕ → ℕ → ℕ
time_of band place = 48 * band + place

-- how many periods a band shows
abbrev pub periods_in : Plant → ℕ → ℕ
periods_in plant band = min 48 (plant.periods - 48 * band)

-- what a band shows of a list by times: 48 of them, and all that is left in the last band
unfoldable pub band_part : {A : Type 0} → Plant → ℕ → List A → List A
band_part plant band items =
    if band + 1 == band_count plant then drop (48 * band) items else take 48 (drop (48 * band) items)

-- how wide a period is drawn: 54, and wider where the horizon is short, so that all periods take about 720
unfoldable pub period_width : Plant → ℕ
period_width plant = max 54 (720 / plant.periods)

-- how many letters have room in a width: each takes 6
abbrev pub letters_in : ℕ → ℕ
letters_in width = (width - 6) / 6

-- where a place of a band stands, right of the names
unfoldable pub x_at : Plant → ℕ → ℕ
x_at plant place = 128 + place * period_width plant

-- how wide the chart is: a band, and the stock of the horizon right of it
abbrev pub chart_width : Plant → ℕ
chart_width plant = x_at plant (min 48 plant.periods + 1)

-- how many rows a part of a band takes: its head, and one for each thing; none where there is no thing
abbrev pub part_rows : ℕ → ℕ
part_rows count = if count == 0 then 0 else count + 1

-- where the row of a unit begins in its band
abbrev pub unit_top : ℕ → ℕ
unit_top unit = 22 + 22 * unit

-- where the stocks of a band begin: below the rows of all units
abbrev pub stocks_top : Plant → ℕ
stocks_top plant = 22 + 22 * length plant.units

-- where the loads of a band begin: below the rows of so many states
abbrev pub loads_top : Plant → ℕ → ℕ
loads_top plant states = stocks_top plant + 22 * part_rows states

-- where the days and hours of a band begin: below the rows of all utilities
abbrev pub days_top : Plant → ℕ → ℕ
days_top plant states = loads_top plant states + 22 * part_rows (length plant.utilities)

-- how high the row of days and hours is; nothing where there is no calendar
abbrev pub days_height : Option Calendar → ℕ
days_height None = 0
days_height (Some calendar) = 22

-- where a band ends: below its days and hours
abbrev pub band_height : Plant → ℕ → ℕ
band_height plant states = days_top plant states + days_height plant.calendar

-- how many tasks stand in a line of the legend
unfoldable pub tasks_in_line : Plant → ℕ
tasks_in_line plant = max 1 (chart_width plant / 240)

-- where a band begins: below the head, the legend, and the bands before it, with a row between
unfoldable pub band_top : Plant → ℕ → ℕ → ℕ
band_top plant states band =
    22 + 22 * ((length plant.tasks + (tasks_in_line plant - 1)) / tasks_in_line plant) + band * (band_height plant states + 22)

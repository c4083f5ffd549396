-- The clock of a plant with a calendar: the date and the time of day of each of its times.
use Rattle.std.specs.Prelude.{◌≡◌, ℕ, zero, suc, ◌+◌, ◌*◌, ◌/◌, ◌%◌, nat_lt, if◌then◌else◌, List, [], ◌∷◌, ◌++◌, codes}
use Rattle.stn_model.specs.declared.plant.Calendar.{Calendar}
use Rattle.stn_model.specs.declared.plant.Moment.{Moment}
use Rattle.stn_model.specs.Labels.{days_in_month, SoundCalendar}

-- the same time of the next day
unfoldable pub next_day : Moment → Moment
next_day moment =
    if nat_lt moment.day (days_in_month moment.year moment.month) then record moment { day = moment.day + 1 }
    else (if nat_lt moment.month 12 then record moment { month = moment.month + 1; day = 1 }
    else record moment { year = moment.year + 1; month = 1; day = 1 })

-- the same time so many days later
abbrev pub days_later : Moment → ℕ → Moment
days_later moment zero = moment
days_later moment (suc days) = next_day (days_later moment days)

-- how many seconds of its day are over at a moment
abbrev pub second_of : Moment → ℕ
second_of moment = 3600 * moment.hour + (60 * moment.minute + moment.second)

-- the moment of the same day at which so many seconds of it are over
abbrev pub at_second : Moment → ℕ → Moment
at_second moment second = record moment { hour = second / 3600; minute = second / 60 % 60; second = second % 60 }

-- the moment so many seconds after the day of a moment began
abbrev pub seconds_in : Moment → ℕ → Moment
seconds_in moment seconds = at_second (days_later moment (seconds / 86400)) (seconds % 86400)

-- the moment so many minutes later
unfoldable pub minutes_later : Moment → ℕ → Moment
minutes_later moment minutes = seconds_in moment (second_of moment + 60 * minutes)

-- the moment at a time of a plant
abbrev pub moment_at : Calendar → ℕ → Moment
moment_at calendar time = minutes_later calendar.start (calendar.minutes * time)

-- the calendar of a plant that begins at a time of another
abbrev pub calendar_from : ℕ → Calendar → Calendar
calendar_from time calendar = record calendar { start = moment_at calendar time }

-- A calendar that begins at a time of another shows the same moments from there on.
abbrev pub ClockLaw : Type 0
ClockLaw = (calendar : Calendar) → SoundCalendar calendar → (period time : ℕ) → moment_at (calendar_from period calendar) time ≡ moment_at calendar (period + time)

-- the last two digits of a number
abbrev pub two_digits : ℕ → List ℕ
two_digits n = (48 + n / 10 % 10) ∷ (48 + n % 10) ∷ []

-- a year in four digits; from 10000 on in five
abbrev pub year_text : ℕ → List ℕ
year_text year = (if nat_lt year 10000 then [] else (48 + year / 10000 % 10) ∷ []) ++ (two_digits (year / 100) ++ two_digits year)

-- the day in its year, as `12-24`
unfoldable pub day_text : Moment → List ℕ
day_text moment = two_digits moment.month ++ (codes "-" ++ two_digits moment.day)

-- the hour, as `18:30`
unfoldable pub hour_text : Moment → List ℕ
hour_text moment = two_digits moment.hour ++ (codes ":" ++ two_digits moment.minute)

-- the whole moment, as `2026-12-24T18:30:00`
unfoldable pub moment_text : Moment → List ℕ
moment_text moment =
    year_text moment.year ++ (codes "-" ++ (day_text moment
    ++ (codes "T" ++ (hour_text moment ++ (codes ":" ++ two_digits moment.second)))))

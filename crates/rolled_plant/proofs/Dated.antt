-- A moment that the clock reaches is a day of the calendar and a time of day.
use Rattle.std.proofs.Common.{◌≡◌, ℕ, zero, suc, ◌+◌, ◌*◌, ◌/◌, ◌%◌, ◌<◌, ◌≤◌, arith, Option, Some, None, refl, ap}
use Rattle.std.specs.Prelude.{IfSome, option_map, nat_lt, if◌then◌else◌, ◌==◌, ◌||◌}
use Rattle.std.proofs.lemmas.Bool.{cond_both, ltb-true}
use Rattle.std.proofs.lemmas.Nat.{div_below, mod_below}
use Rattle.stn_model.specs.declared.plant.Calendar.{Calendar}
use Rattle.stn_model.specs.declared.plant.Moment.{Moment}
use Rattle.stn_model.specs.Labels.{is_leap_year, days_in_month, SoundMoment, SoundCalendar}
use Rattle.plant_labels.specs.Clock.{next_day, days_later, second_of, at_second, minutes_later, moment_at, ClockLaw}
use Rattle.rolled_plant.specs.RolledPlant.{rolled_calendar, rolled_plant}
use Rattle.rolled_plant.specs.FitsFile.{BeginsInTime}
use Rattle.rolled_plant.specs.RollLaw.{DateLaw}

-- a month of the year, and a day of the month
record IsDay (moment : Moment) : Type 0 where
  month : (1 ≤ moment.month) × (moment.month ≤ 12)
  day : (1 ≤ moment.day) × (moment.day ≤ days_in_month moment.year moment.month)

-- each month has a day
has-day : (year month : ℕ) → 1 ≤ days_in_month year month
unfolding days_in_month
has-day year month =
    let short = month == 4 || month == 6 || month == 9 || month == 11 in
    let some = λ (n : ℕ). 1 ≤ n in
    cond_both {A = ℕ} (month == 2) (if is_leap_year year then 29 else 28) (if short then 30 else 31) some
    (λ _. cond_both {A = ℕ} (is_leap_year year) 29 28 some (λ _. omega arith) (λ _. omega arith))
    (λ _. cond_both {A = ℕ} short 30 31 some (λ _. omega arith) (λ _. omega arith))

-- the next day is a day
next-is : (moment : Moment) → IsDay moment → IsDay (next_day moment)
unfolding next_day
next-is moment is =
    let month = is.month in
    let day = is.day in
    let days = days_in_month moment.year moment.month in
    let tomorrow : Moment = record moment { day = moment.day + 1 } in
    let first : Moment = record moment { month = moment.month + 1; day = 1 } in
    let newyear : Moment = record moment { year = moment.year + 1; month = 1; day = 1 } in
    cond_both {A = Moment} (nat_lt moment.day days) tomorrow (if nat_lt moment.month 12 then first else newyear) IsDay
    (λ more. let less = ltb-true moment.day days more in record { month = month; day = (omega arith, omega arith) })
    (λ _. cond_both {A = Moment} (nat_lt moment.month 12) first newyear IsDay
    (λ more. let less = ltb-true moment.month 12 more in record { month = (omega arith, omega arith); day = (omega arith, has-day moment.year (moment.month + 1)) })
    (λ _. record { month = (omega arith, omega arith); day = (omega arith, has-day (moment.year + 1) 1) }))

-- so are those after it
later-is : (moment : Moment) (days : ℕ) → IsDay moment → IsDay (days_later moment days)
later-is moment zero is = is
later-is moment (suc days) is = next-is (days_later moment days) (later-is moment days is)

-- a second of a day is a time of day
timed : (moment : Moment) (second : ℕ) → second < 86400 → moment.year ≤ 9999 → IsDay moment → SoundMoment (at_second moment second)
timed moment second inside year is = record {
  year = year;
  month = is.month;
  day = is.day;
  hour = div_below second 3600 24 (omega arith) (omega (arith, inside));
  minute = mod_below (second / 60) 60 (omega arith);
  second = mod_below second 60 (omega arith);
}

-- what the clock shows is a day of the calendar and a time of day, up to the end of the year 9999
reached : (calendar : Calendar) (time : ℕ) → SoundCalendar calendar → (moment_at calendar time).year ≤ 9999 → SoundMoment (moment_at calendar time)
unfolding minutes_later
reached calendar time sound year =
    let seconds = second_of calendar.start + 60 * (calendar.minutes * time) in
    timed (days_later calendar.start (seconds / 86400)) (seconds % 86400) (mod_below seconds 86400 (omega arith)) year
    (later-is calendar.start (seconds / 86400) (record { month = sound.start.month; day = sound.start.day }))

-- the calendar from the period on is sound, where it begins by then
pub calendar-sound : (period : ℕ) (own : Option Calendar) → IfSome own SoundCalendar → BeginsInTime (rolled_calendar period own) → IfSome (rolled_calendar period own) SoundCalendar
calendar-sound period None sound in_time = tt
calendar-sound period (Some calendar) sound in_time = record { start = reached calendar period sound in_time; minutes = sound.minutes }

-- a calendar that begins later shows at each time what it showed so many periods later
seen-later : (period time : ℕ) (own : Option Calendar) → ClockLaw → IfSome own SoundCalendar → option_map (λ calendar. moment_at calendar time) (rolled_calendar period own) ≡ option_map (λ calendar. moment_at calendar (period + time)) own
seen-later period time None law sound = refl
seen-later period time (Some calendar) law sound = ap (λ (moment : Moment). Some moment) (law calendar sound period time)

pub same_dates : ClockLaw → DateLaw
unfolding rolled_plant
same_dates law plant before period sound time = seen-later period time plant.calendar law sound.calendar

-- Dates with a time of day, as a plant file tells them.
use Rattle.std.specs.Prelude.{ℕ, ◌&&◌, ◌==◌, nat_le, nat_lt, Bool, Option, Some, None, unwrap_or, if◌then◌else◌}
use Rattle.std.specs.Option.{option_and_then}
use Rattle.toml.specs.Data.{Data, as_datetime}
use Rattle.toml_datetime.specs.declared.datetime.Date.{Date}
use Rattle.toml_datetime.specs.declared.datetime.Time.{Time}
use Rattle.toml_datetime.specs.declared.datetime.Offset.{Offset}
use Rattle.toml_datetime.specs.declared.datetime.Datetime.{Datetime}
use Rattle.stn_model.specs.declared.plant.Moment.{Moment}
use Rattle.stn_model.specs.Labels.{days_in_month}

-- a moment of the calendar, in a year of four digits, in whole seconds
unfoldable pub is_moment : Moment → Bool
is_moment moment =
    (nat_le moment.year 9999 && (nat_le 1 moment.month && nat_le moment.month 12))
    && ((nat_le 1 moment.day && nat_le moment.day (days_in_month moment.year moment.month))
    && (nat_lt moment.hour 24 && (nat_lt moment.minute 60 && nat_lt moment.second 60)))

-- the moment of a date and a time of day; seconds that are not told are out of range
abbrev pub moment_of_day : Date → Time → Moment
moment_of_day date time = record {
  year = date.year;
  month = date.month;
  day = date.day;
  hour = time.hour;
  minute = time.minute;
  second = unwrap_or time.second 60;
}

-- the moment, where it is one and no fraction of a second is over
abbrev pub whole_moment : Moment → ℕ → Option Moment
whole_moment moment fraction = if is_moment moment && fraction == 0 then Some moment else None

-- the moment of a date and a time of day, where both are there and no offset is
abbrev pub local_moment : Option Date → Option Time → Option Offset → Option Moment
local_moment (Some date) (Some time) None = whole_moment (moment_of_day date time) (unwrap_or time.nanosecond 0)
local_moment _ _ _ = None

-- the moment that a value tells, if it tells one: a local date-time in whole seconds
abbrev pub moment_in : Data → Option Moment
moment_in d = option_and_then (λ (told : Datetime). local_moment told.date told.time told.offset) (as_datetime d)

-- a moment, in the place of one that is not told
abbrev pub no_moment : Moment
no_moment = record { year = 0; month = 1; day = 1; hour = 0; minute = 0; second = 0 }

-- the moment of a value
abbrev pub moment_of : Data → Moment
moment_of d = unwrap_or (moment_in d) no_moment

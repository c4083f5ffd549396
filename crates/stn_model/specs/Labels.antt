-- What a plant says beside its names, for those who look at a plan: labels, colours and a calendar. No definition of a plan reads them.
use Rattle.std.specs.Prelude.{◌≡◌, ◌⊎◌, ℕ, ◌%◌, ◌≤◌, ◌<◌, ◌||◌, ◌&&◌, ◌==◌, not, nat_le, Bool, false, IsTrue, IfSome, None, List, [], ◌∷◌, length, All, if◌then◌else◌}
use Rattle.std.specs.List.{list_all, list_any}
use Rattle.std.specs.Char.{is_control, is_ascii_hexdigit}
use Rattle.std.specs.Str.{chars, is_utf8}
use Rattle.stn_model.specs.declared.plant.Plant.{Plant}
use Rattle.stn_model.specs.declared.plant.State.{State}
use Rattle.stn_model.specs.declared.plant.Utility.{Utility}
use Rattle.stn_model.specs.declared.plant.StnUnit.{StnUnit}
use Rattle.stn_model.specs.declared.plant.Task.{Task}
use Rattle.stn_model.specs.declared.plant.Calendar.{Calendar}
use Rattle.stn_model.specs.declared.plant.Moment.{Moment}

-- a character that no label has: a control character, or one of the two that no XML text may have
abbrev pub is_unwritable : ℕ → Bool
is_unwritable c = is_control c || c == 65534 || c == 65535

-- a label: one to 64 bytes of UTF-8, without such characters
unfoldable pub is_label : List ℕ → Bool
is_label text = nat_le 1 (length text) && nat_le (length text) 64 && is_utf8 text && not (list_any is_unwritable (chars text))

-- a colour: '#' and six hexadecimal digits
unfoldable pub is_colour : List ℕ → Bool
is_colour [] = false
is_colour (byte ∷ digits) = byte == 35 && length digits == 6 && list_all is_ascii_hexdigit digits

-- there is no label, or it is one; and so with a colour
abbrev pub SoundLabel : List ℕ → Type 0
SoundLabel label = (label ≡ []) ⊎ IsTrue (is_label label)

abbrev pub SoundColour : List ℕ → Type 0
SoundColour colour = (colour ≡ []) ⊎ IsTrue (is_colour colour)

-- what a thing is called: by its label, and by its name where it has none
abbrev pub called : List ℕ → List ℕ → List ℕ
called [] name = name
called (byte ∷ label) name = byte ∷ label

-- a leap year of the Gregorian calendar
abbrev pub is_leap_year : ℕ → Bool
is_leap_year year = year % 4 == 0 && (not (year % 100 == 0) || year % 400 == 0)

-- how many days a month has
unfoldable pub days_in_month : ℕ → ℕ → ℕ
days_in_month year month =
    if month == 2 then (if is_leap_year year then 29 else 28)
    else (if month == 4 || month == 6 || month == 9 || month == 11 then 30 else 31)

-- a day of the calendar, in a year of four digits, and a time of day
pub record SoundMoment (moment : Moment) : Type 0 where
  pub year : moment.year ≤ 9999
  pub month : (1 ≤ moment.month) × (moment.month ≤ 12)
  pub day : (1 ≤ moment.day) × (moment.day ≤ days_in_month moment.year moment.month)
  pub hour : moment.hour < 24
  pub minute : moment.minute < 60
  pub second : moment.second < 60

-- a calendar begins at such a moment, and a period takes a week at most
pub record SoundCalendar (calendar : Calendar) : Type 0 where
  pub start : SoundMoment calendar.start
  pub minutes : (1 ≤ calendar.minutes) × (calendar.minutes ≤ 10080)

-- a plant without labels, colours and a calendar
pub record Unlabelled (plant : Plant) : Type 0 where
  pub calendar : plant.calendar ≡ None
  pub states : All (λ (state : State). state.label ≡ []) plant.states
  pub utilities : All (λ (utility : Utility). utility.label ≡ []) plant.utilities
  pub units : All (λ (unit : StnUnit). unit.label ≡ []) plant.units
  pub tasks : All (λ (task : Task). task.label ≡ []) plant.tasks
  pub colours : All (λ (task : Task). task.colour ≡ []) plant.tasks

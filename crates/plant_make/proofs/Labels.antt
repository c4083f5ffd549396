-- Labels, colours and a calendar, as they are printed, are read as they were.
use Rattle.std.proofs.Common.{◌≡◌, ℕ, true, false, List, [], ◌∷◌, Option, Some, None, is_some, option_map, unwrap_or, le-leb, lt-ltb, refl, ◌∙◌, inl, inr, arith}
use Rattle.std.specs.Prelude.{IfSome}
use Rattle.toml_datetime.specs.Valid.{is_valid, is_valid_date, is_valid_time}
use Rattle.toml.specs.Data.{Data, datetime}
use Rattle.stn_model.specs.declared.plant.Calendar.{Calendar}
use Rattle.stn_model.specs.declared.plant.Moment.{Moment}
use Rattle.stn_model.specs.Labels.{SoundLabel, SoundColour, SoundMoment, SoundCalendar, days_in_month}
use Rattle.plant_text.specs.declared.fault.Place.{Place}
use Rattle.plant_text.specs.declared.find.Key.{Key}
use Rattle.plant_text.specs.Tests.{first_fault}
use Rattle.plant_text.specs.Moments.{is_moment, moment_in, moment_of}
use Rattle.plant_text.specs.Fields as kind
use Rattle.plant_text.specs.Fields.{label, colour, count, count_of, text_of, value_tests, kind_tests}
use Rattle.plant_make.specs.Entries.{some_text}
use Rattle.plant_make.specs.Printed.{date_time, start_of, minutes_of}
use Rattle.plant_make.proofs.Passing.{Pass, absent_ok, count_ok}

-- a label passes the test of its key, and so does none
pub label_ok : (place : Place) (key : Key) (text : List ℕ) (o : Option Data) → o ≡ some_text text → key.required ≡ false → SoundLabel text → Pass (value_tests place key label o)
unfolding value_tests kind_tests first_fault
label_ok place key [] o is free sound = absent_ok place key o label is free
label_ok place key (byte ∷ text) o is free (inl none) = absurd cc
label_ok place key (byte ∷ text) o is free (inr good) = rw (is, good) refl

-- so does a colour
pub colour_ok : (place : Place) (key : Key) (text : List ℕ) (o : Option Data) → o ≡ some_text text → key.required ≡ false → SoundColour text → Pass (value_tests place key colour o)
unfolding value_tests kind_tests first_fault
colour_ok place key [] o is free sound = absent_ok place key o colour is free
colour_ok place key (byte ∷ text) o is free (inl none) = absurd cc
colour_ok place key (byte ∷ text) o is free (inr good) = rw (is, good) refl

-- each is read as it was
pub text_back : (text : List ℕ) (o : Option Data) → o ≡ some_text text → unwrap_or (option_map text_of o) [] ≡ text
text_back [] o is = rw is refl
text_back (byte ∷ text) o is = rw is refl

-- a moment is one to the reader, and one that a text can write
moment_good : (moment : Moment) → SoundMoment moment → is_moment moment ≡ true
unfolding is_moment
moment_good moment sound =
    rw (
      le-leb moment.year 9999 sound.year,
      le-leb 1 moment.month sound.month.0,
      le-leb moment.month 12 sound.month.1,
      le-leb 1 moment.day sound.day.0,
      le-leb moment.day (days_in_month moment.year moment.month) sound.day.1,
      lt-ltb moment.hour 24 sound.hour,
      lt-ltb moment.minute 60 sound.minute,
      lt-ltb moment.second 60 sound.second,
    )
    refl

pub moment_valid : (moment : Moment) → SoundMoment moment → is_valid (date_time moment) ≡ true
unfolding is_valid is_valid_date is_valid_time days_in_month
moment_valid moment sound =
    rw (
      lt-ltb moment.year 10000 (omega (arith, sound.year)),
      le-leb 1 moment.month sound.month.0,
      le-leb moment.month 12 sound.month.1,
      le-leb 1 moment.day sound.day.0,
      le-leb moment.day _ sound.day.1,
      lt-ltb moment.hour 24 sound.hour,
      lt-ltb moment.minute 60 sound.minute,
      lt-ltb moment.second 61 (omega (arith, sound.second)),
    )
    refl

moment_back : (moment : Moment) → SoundMoment moment → moment_in (datetime (date_time moment)) ≡ Some moment
moment_back moment sound = rw (moment_good moment sound) refl

-- the two keys of a calendar, each of which needs the other, pass their tests
pub calendar_ok : (place : Place) (start_key minutes_key : Key) (calendar : Option Calendar) (o p : Option Data) → o ≡ start_of calendar → p ≡ minutes_of calendar
    → start_key.required ≡ is_some p → minutes_key.required ≡ is_some o → IfSome calendar SoundCalendar → Pass (value_tests place start_key kind.moment o) × Pass (value_tests place minutes_key (count 1 10080) p)
unfolding value_tests kind_tests first_fault
calendar_ok place start_key minutes_key None o p is_o is_p start_free minutes_free sound =
    (absent_ok place start_key o kind.moment is_o (start_free ∙ rw is_p refl), absent_ok place minutes_key p (count 1 10080) is_p (minutes_free ∙ rw is_o refl))
calendar_ok place start_key minutes_key (Some calendar) o p is_o is_p start_free minutes_free sound =
    (rw (is_o, moment_back calendar.start sound.start) refl, count_ok place minutes_key 1 10080 calendar.minutes p is_p sound.minutes.0 sound.minutes.1)

-- and the calendar is read as it was
pub calendar_back : (calendar : Option Calendar) (o p : Option Data) → o ≡ start_of calendar → p ≡ minutes_of calendar → IfSome calendar SoundCalendar
    → option_map (λ (start : Moment). let told : Calendar = record { start = start; minutes = unwrap_or (option_map count_of p) 0 } in told) (option_map moment_of o) ≡ calendar
calendar_back None o p is_o is_p sound = rw is_o refl
calendar_back (Some calendar) o p is_o is_p sound = rw (is_o, is_p, moment_back calendar.start sound.start) refl

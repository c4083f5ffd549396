-- A calendar whose tests pass is sound.
use Rattle.std.proofs.Common.{◌≡◌, ℕ, eqb, ◌&&◌, Bool, true, false, cond, Option, Some, None, is_some, option_map, unwrap_or, refl}
use Rattle.std.specs.Prelude.{IfSome}
use Rattle.std.specs.Option.{option_and_then}
use Rattle.std.proofs.lemmas.Bool.{and_parts, leb-true, ltb-true}
use Rattle.toml.specs.Data.{Data, Members, as_datetime}
use Rattle.toml_datetime.specs.declared.datetime.Date.{Date}
use Rattle.toml_datetime.specs.declared.datetime.Time.{Time}
use Rattle.toml_datetime.specs.declared.datetime.Offset.{Offset}
use Rattle.toml_datetime.specs.declared.datetime.Datetime.{Datetime}
use Rattle.stn_model.specs.declared.plant.Calendar.{Calendar}
use Rattle.stn_model.specs.declared.plant.Moment.{Moment}
use Rattle.stn_model.specs.Labels.{SoundMoment, SoundCalendar}
use Rattle.plant_text.specs.declared.fault.Place.{Place}
use Rattle.plant_text.specs.declared.find.Key.{Key}
use Rattle.plant_text.specs.Fields as kind
use Rattle.plant_text.specs.Fields.{count, count_of, value_tests, kind_tests}
use Rattle.plant_text.specs.Moments.{is_moment, local_moment, moment_in, moment_of}
use Rattle.plant_text.specs.Document.{calendar_in}
use Rattle.plant_text.proofs.Passed.{Pass, first_pass, is_there, count_needed}

-- a moment of the calendar keeps its ranges
moment_sound : (moment : Moment) → is_moment moment ≡ true → SoundMoment moment
unfolding is_moment
moment_sound moment e =
    let halves = and_parts _ _ e in
    let year = and_parts _ _ halves.0 in
    let month = and_parts _ _ year.1 in
    let days = and_parts _ _ halves.1 in
    let day = and_parts _ _ days.0 in
    let hour = and_parts _ _ days.1 in
    let minute = and_parts _ _ hour.1 in
    record {
      year = leb-true _ _ year.0;
      month = (leb-true _ _ month.0, leb-true _ _ month.1);
      day = (leb-true _ _ day.0, leb-true _ _ day.1);
      hour = ltb-true _ _ hour.0;
      minute = ltb-true _ _ minute.0;
      second = ltb-true _ _ minute.1;
    }

whole_is : (told moment : Moment) (fraction : ℕ) (b : Bool) → (is_moment told && eqb fraction 0) ≡ b → cond b (Some told) None ≡ Some moment → is_moment moment ≡ true
whole_is told moment fraction true e is = let same : told ≡ moment = cc in rw (← same) (and_parts _ _ e).0
whole_is told moment fraction false e is = absurd cc

local_is : (date : Option Date) (time : Option Time) (offset : Option Offset) (moment : Moment) → local_moment date time offset ≡ Some moment → is_moment moment ≡ true
local_is None time offset moment e = absurd cc
local_is (Some date) None offset moment e = absurd cc
local_is (Some date) (Some time) (Some offset) moment e = absurd cc
local_is (Some date) (Some time) None moment e = whole_is _ moment _ _ refl e

told_is : (o : Option Datetime) (moment : Moment) → option_and_then (λ (told : Datetime). local_moment told.date told.time told.offset) o ≡ Some moment → is_moment moment ≡ true
told_is None moment e = absurd cc
told_is (Some told) moment e = local_is told.date told.time told.offset moment e

-- a calendar that is told begins at a moment, and its periods take minutes that are told too
pub calendar_sound : (place : Place) (begins measures : Key) (start minutes : Option Data) → measures.required ≡ is_some start
    → Pass (value_tests place begins kind.moment start) → Pass (value_tests place measures (count 1 10080) minutes)
    → IfSome (option_map (λ (moment : Moment). let calendar : Calendar = record { start = moment; minutes = unwrap_or (option_map count_of minutes) 0 } in calendar) (option_map moment_of start)) SoundCalendar
unfolding value_tests kind_tests
calendar_sound place begins measures None minutes required e f = tt
calendar_sound place begins measures (Some d) minutes required e f =
    let told = is_there (moment_in d) (first_pass _ _ _ e).0 in
    record { start = rw told.1 (moment_sound told.0 (told_is (as_datetime d) told.0 told.1)); minutes = count_needed place measures 1 10080 minutes required f }

-- a file that is not of version 3 has none
pub no_calendar : (third : Bool) → third ≡ false → (document : Members) → calendar_in third document ≡ None
no_calendar third not_third document = rw not_third refl

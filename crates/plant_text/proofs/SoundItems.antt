-- Items whose tests pass are sound.
use Rattle.std.proofs.Common.{◌≡◌, ℕ, ℤ, pos, negsuc, zero, suc, ◌+◌, ◌≤◌, ◌⊎◌, Bool, false, cond, not, List, [], length, Option, Some, None, is_some, option_map, unwrap_or, unsigned_abs, replicate, refl, ◌∙◌, inl, inr, arith}
use Rattle.std.specs.Prelude.{IfSome}
use Rattle.std.specs.List.{AllByRecursion}
use Rattle.std.proofs.lemmas.Bool.{ltb-true, ltb-false}
use Rattle.std.proofs.lemmas.Int.{ints}
use Rattle.std.proofs.lemmas.List.{length-replicate}
use Rattle.std.proofs.lemmas.List.Elements.{All-from_recursion}
use Rattle.toml.specs.Data.{Data}
use Rattle.stn_model.specs.declared.plant.Plant.{Plant}
use Rattle.stn_model.specs.declared.plant.Last.{Last}
use Rattle.stn_model.specs.declared.plant.Run.{Run}
use Rattle.stn_model.specs.Sound.{SoundState, SoundUtility, SoundLast, SoundUnit, SoundRun, SoundGap, SoundReceipt, SoundDelivery, SoundOutage}
use Rattle.plant_text.specs.declared.fault.Place.{Place}
use Rattle.plant_text.specs.declared.find.Key.{Key}
use Rattle.plant_text.specs.declared.fault.KeyName.TheVariants as key
use Rattle.plant_text.specs.Fields as kind
use Rattle.plant_text.specs.Fields.{held, members_of, since, count, numbers, amounts, count_of, integer_of, numbers_of, amounts_of, text_of, place_of, value_tests}
use Rattle.plant_text.specs.Scope.{Scope}
use Rattle.plant_text.specs.Tables.{limits_in, state_fields, state_tests, state_of, utility_fields, utility_tests, utility_of, unit_fields, is_there as is_there_at, unit_place, unit_tests, unit_of, is_stray, last_tests, run_fields, run_tests, run_more_tests, run_of, gap_fields, gap_tests, gap_of, receipt_fields, receipt_tests, receipt_of, delivery_fields, delivery_tests, delivery_of, outage_fields, outage_tests, outage_more_tests, outage_of}
use Rattle.plant_text.proofs.Limits.{under, few_of}
use Rattle.plant_text.proofs.Passed.{Pass, Below, AreNumbers, first_pass, both_pass, count_needed, count_most, money_most, time_within, is_there, name_declared, label_sound, refers_below, numbers_there, amounts_there, tested, not_false, absent}

-- a number that is repeated is at most the bound that it keeps
all_repeated : (most n : ℕ) → n ≤ most → (many : ℕ) → AllByRecursion (λ k. k ≤ most) (replicate many n)
all_repeated most n small zero = tt
all_repeated most n small (suc many) = (small, all_repeated most n small many)

-- the limits of a state: none, or one for each time
pub limits_maybe : (place other : Place) (lone key : Key) (forbidden : Bool) (many most : ℕ) (limit limits : Option Data)
    → Pass (value_tests place lone (count 0 most) limit) → Pass (value_tests other key (numbers forbidden many most) limits)
    → ((limits_in (option_map count_of limit) (option_map numbers_of limits) many ≡ []) ⊎ (length (limits_in (option_map count_of limit) (option_map numbers_of limits) many) ≡ many))
    × AllByRecursion (λ n. n ≤ most) (limits_in (option_map count_of limit) (option_map numbers_of limits) many)
limits_maybe place other lone key forbidden many most None None one list = (inl refl, tt)
limits_maybe place other lone key forbidden many most (Some d) None one list =
    (inr (length-replicate many (count_of d)), all_repeated most (count_of d) (count_most place lone most (Some d) one) many)
limits_maybe place other lone key forbidden many most None (Some ds) one list =
    let are = numbers_there other key forbidden many most ds list in (inr are.many, are.most)
limits_maybe place other lone key forbidden many most (Some d) (Some ds) one list =
    let are = numbers_there other key forbidden many most ds list in (inr are.many, are.most)

-- the limits of a utility, which has the one or the others: one for each period
pub limits_always : (place other : Place) (lone key : Key) (forbidden : Bool) (many most : ℕ) (limit limits : Option Data) → lone.required ≡ not (is_some limits)
    → Pass (value_tests place lone (count 0 most) limit) → Pass (value_tests other key (numbers forbidden many most) limits)
    → AreNumbers many most (limits_in (option_map count_of limit) (option_map numbers_of limits) many)
limits_always place other lone key forbidden many most None None required one list = absurd (absent place lone (count 0 most) required one)
limits_always place other lone key forbidden many most (Some d) None required one list =
    record { many = length-replicate many (count_of d); most = all_repeated most (count_of d) (count_most place lone most (Some d) one) many }
limits_always place other lone key forbidden many most None (Some ds) required one list = numbers_there other key forbidden many most ds list
limits_always place other lone key forbidden many most (Some d) (Some ds) required one list = numbers_there other key forbidden many most ds list

-- the rates of a utility: none, or one for each period where there is no other rate
pub rates_maybe : (place : Place) (key : Key) (many most : ℕ) (rate rates : Option Data) → Pass (value_tests place key (amounts (is_some rate) many most) rates)
    → ((unwrap_or (option_map amounts_of rates) [] ≡ []) ⊎ ((length (unwrap_or (option_map amounts_of rates) []) ≡ many) × (unwrap_or (option_map integer_of rate) (pos 0) ≡ pos 0)))
    × AllByRecursion (λ (z : ℤ). unsigned_abs z ≤ most) (unwrap_or (option_map amounts_of rates) [])
rates_maybe place key many most rate None e = (inl refl, tt)
rates_maybe place key many most None (Some ds) e = let are = amounts_there place key _ many most ds e in (inr (are.many, refl), are.most)
rates_maybe place key many most (Some d) (Some ds) e = let are = amounts_there place key _ many most ds e in let lone = are.lone in absurd cc

pub state_sound : (scope : Scope) (number : ℕ) (d : Data) → Pass (state_tests scope number d) → SoundState scope.periods (state_of scope d)
unfolding state_tests state_fields state_of
state_sound scope number d e =
    let head = both_pass _ _ e in
    let name = both_pass _ _ head.1 in
    let label = both_pass _ _ name.1 in
    let initial = both_pass _ _ label.1 in
    let limit = both_pass _ _ initial.1 in
    let limits = both_pass _ _ limit.1 in
    let price = both_pass _ _ limits.1 in
    let holding = both_pass _ _ price.1 in
    let kept = limits_maybe _ _ _ _ _ _ _ _ _ limit.0 limits.0 in
    let times : scope.periods + 1 ≡ suc scope.periods = omega arith in
    record {
      name = (name_declared _ _ _ _ _ refl name.0).0;
      label = label_sound _ _ _ label.0;
      initial = count_most _ _ _ _ initial.0;
      limits = elim kept.0 [ inl none ↦ inl none | inr all ↦ inr (all ∙ times) ];
      limit = All-from_recursion (λ n. n ≤ 1000000000) _ kept.1;
      price = money_most _ _ _ _ price.0;
      holding = money_most _ _ _ _ holding.0;
    }

pub utility_sound : (scope : Scope) (number : ℕ) (d : Data) → Pass (utility_tests scope number d) → SoundUtility scope.periods (utility_of scope d)
unfolding utility_tests utility_fields utility_of
utility_sound scope number d e =
    let head = both_pass _ _ e in
    let name = both_pass _ _ head.1 in
    let label = both_pass _ _ name.1 in
    let limit = both_pass _ _ label.1 in
    let limits = both_pass _ _ limit.1 in
    let rate = both_pass _ _ limits.1 in
    let rates = both_pass _ _ rate.1 in
    let kept = limits_always _ _ _ _ _ _ _ _ _ refl limit.0 limits.0 in
    let paid = rates_maybe _ _ _ _ _ _ rates.0 in
    record {
      name = (name_declared _ _ _ _ _ refl name.0).0;
      label = label_sound _ _ _ label.0;
      limits = kept.many;
      limit = All-from_recursion (λ n. n ≤ 1000000000) _ kept.most;
      rate = money_most _ _ _ _ rate.0;
      rates = paid.0;
      each_rate = All-from_recursion (λ (z : ℤ). unsigned_abs z ≤ 1000000) _ paid.1;
    }

-- the batch that held a unit last: its task is declared, and its end is in its range
last_sound : (scope : Scope) (plant : Plant) (place : Place) (key : Key) (alone : Bool) (name ends : Option Data) → Below (length plant.tasks) scope.tasks → plant.periods ≡ scope.periods
    → is_stray scope.tasks name ≡ false → Pass (value_tests place key (kind.time alone (negsuc 335) (pos scope.periods)) ends)
    → IfSome (option_map (λ (number : ℕ). let last : Last = record { task = number; until = unwrap_or (option_map integer_of ends) (pos 0) } in last) (option_map (place_of scope.tasks) name)) (SoundLast plant)
last_sound scope plant place key alone None ends tasks horizon declared e = tt
last_sound scope plant place key alone (Some d) ends tasks horizon declared e =
    let k = is_there (scope.tasks (text_of d)) declared in
    let span = time_within place key alone (negsuc 335) (pos scope.periods) ends (omega (arith, ints)) (omega (arith, ints)) e in
    record { task = rw k.1 (tasks (text_of d) k.0 k.1); early = span.early; late = rw horizon span.late }

pub unit_sound : (scope : Scope) (plant : Plant) → Below (length plant.tasks) scope.tasks → plant.periods ≡ scope.periods
    → (number place : ℕ) (d : Data) → Pass (unit_tests scope number d) → Pass (last_tests scope place d) → SoundUnit plant (unit_of scope d)
unfolding unit_tests unit_fields unit_of last_tests
unit_sound scope plant tasks horizon number place d e f =
    let head = both_pass _ _ e in
    let name = both_pass _ _ head.1 in
    let label = both_pass _ _ name.1 in
    let last = both_pass _ _ label.1 in
    let word = tested _ _ _ _ last.0 in
    let until = both_pass _ _ last.1 in
    let declared = first_pass _ _ _ f in
    record {
      name = (name_declared _ _ _ _ _ refl name.0).0;
      label = label_sound _ _ _ label.0;
      last = last_sound scope plant (unit_place number) (since scope.third key.Until) (not (is_there_at (members_of d) key.Last)) (held (members_of d) (since scope.third key.Last)) (held (members_of d) (since scope.third key.Until)) tasks horizon declared.0 until.0;
    }

-- a unit of a file that is not of version 3 was held by no batch
pub no_last : (scope : Scope) → scope.third ≡ false → (d : Data) → (unit_of scope d).last ≡ None
unfolding unit_of
no_last scope not_third d = rw not_third refl

pub run_sound : (scope : Scope) (plant : Plant) → Below (length plant.tasks) scope.tasks → Below (length plant.units) scope.units
    → (earlier : List Run) (d : Data) → Pass (run_tests scope earlier d) → SoundRun plant (run_of scope d)
unfolding run_tests run_fields run_of run_more_tests
run_sound scope plant tasks units earlier d e =
    let whole = both_pass _ _ e in
    let head = both_pass _ _ whole.0 in
    let task = both_pass _ _ head.1 in
    let unit = both_pass _ _ task.1 in
    let least = both_pass _ _ unit.1 in
    let most = both_pass _ _ least.1 in
    let cost = both_pass _ _ most.1 in
    let order = first_pass _ _ _ whole.1 in
    record {
      task = refers_below _ _ _ _ _ refl tasks task.0;
      unit = refers_below _ _ _ _ _ refl units unit.0;
      least = (count_needed _ _ _ _ _ refl least.0).0;
      range = ltb-false _ _ order.0;
      most = (count_needed _ _ _ _ _ refl most.0).1;
      cost = money_most _ _ _ _ cost.0;
    }

-- a gap is as long as its version allows
gap_periods : (scope : Scope) (number : ℕ) (d : Data) → Pass (gap_tests scope number d) → (gap_of scope d).periods ≤ cond scope.third 336 96
unfolding gap_tests gap_fields gap_of
gap_periods scope number d e =
    let head = both_pass _ _ e in
    let unit = both_pass _ _ head.1 in
    let on = tested _ _ _ _ unit.0 in
    let from = both_pass _ _ unit.1 in
    let before = tested _ _ _ _ from.0 in
    let to = both_pass _ _ from.1 in
    let after = tested _ _ _ _ to.0 in
    let periods = both_pass _ _ to.1 in
    (count_needed _ _ _ _ _ refl periods.0).1

pub gap_short : (scope : Scope) → scope.third ≡ false → (number : ℕ) (d : Data) → Pass (gap_tests scope number d) → (gap_of scope d).periods ≤ 96
gap_short scope not_third number d e = few_of scope.third 96 336 _ not_third (gap_periods scope number d e)

pub gap_sound : (scope : Scope) (plant : Plant) → Below (length plant.tasks) scope.tasks → Below (length plant.units) scope.units
    → (number : ℕ) (d : Data) → Pass (gap_tests scope number d) → SoundGap plant (gap_of scope d)
unfolding gap_tests gap_fields gap_of
gap_sound scope plant tasks units number d e =
    let head = both_pass _ _ e in
    let unit = both_pass _ _ head.1 in
    let from = both_pass _ _ unit.1 in
    let to = both_pass _ _ from.1 in
    let periods = both_pass _ _ to.1 in
    let cost = both_pass _ _ periods.1 in
    record {
      unit = refers_below _ _ _ _ _ refl units unit.0;
      from = refers_below _ _ _ _ _ refl tasks from.0;
      to = refers_below _ _ _ _ _ refl tasks to.0;
      periods = under scope.third 96 336 _ (omega arith) (count_needed _ _ _ _ _ refl periods.0).1;
      cost = count_most _ _ _ _ cost.0;
    }

pub receipt_sound : (scope : Scope) (plant : Plant) → Below (length plant.states) scope.states → plant.periods ≡ scope.periods
    → (number : ℕ) (d : Data) → Pass (receipt_tests scope number d) → SoundReceipt plant (receipt_of scope d)
unfolding receipt_tests receipt_fields receipt_of
receipt_sound scope plant states horizon number d e =
    let head = both_pass _ _ e in
    let state = both_pass _ _ head.1 in
    let time = both_pass _ _ state.1 in
    let amount = both_pass _ _ time.1 in
    record {
      state = refers_below _ _ _ _ _ refl states state.0;
      time = rw horizon (count_needed _ _ _ _ _ refl time.0).1;
      amount = count_needed _ _ _ _ _ refl amount.0;
    }

pub delivery_sound : (scope : Scope) (plant : Plant) → Below (length plant.states) scope.states → plant.periods ≡ scope.periods
    → (number : ℕ) (d : Data) → Pass (delivery_tests scope number d) → SoundDelivery plant (delivery_of scope d)
unfolding delivery_tests delivery_fields delivery_of
delivery_sound scope plant states horizon number d e =
    let head = both_pass _ _ e in
    let state = both_pass _ _ head.1 in
    let time = both_pass _ _ state.1 in
    let amount = both_pass _ _ time.1 in
    let payment = both_pass _ _ amount.1 in
    record {
      state = refers_below _ _ _ _ _ refl states state.0;
      time = rw horizon (count_needed _ _ _ _ _ refl time.0).1;
      amount = count_needed _ _ _ _ _ refl amount.0;
      payment = money_most _ _ _ _ payment.0;
    }

pub outage_sound : (scope : Scope) (plant : Plant) → Below (length plant.units) scope.units → plant.periods ≡ scope.periods
    → (number : ℕ) (d : Data) → Pass (outage_tests scope number d) → SoundOutage plant (outage_of scope d)
unfolding outage_tests outage_fields outage_of outage_more_tests
outage_sound scope plant units horizon number d e =
    let whole = both_pass _ _ e in
    let head = both_pass _ _ whole.0 in
    let unit = both_pass _ _ head.1 in
    let from = both_pass _ _ unit.1 in
    let begins = count_needed _ _ _ _ _ refl from.0 in
    let to = both_pass _ _ from.1 in
    let order = first_pass _ _ _ whole.1 in
    record {
      unit = refers_below _ _ _ _ _ refl units unit.0;
      some = ltb-true _ _ (not_false _ order.0);
      to = rw horizon (count_needed _ _ _ _ _ refl to.0).1;
    }

-- A document whose tests pass has a sound plant.
use Rattle.std.proofs.Common.{◌≡◌, ◌≢◌, ℕ, zero, suc, ◌+◌, ◌<◌, ◌≤◌, Bool, true, false, cond, eqb, ◌&&◌, List, [], ◌∷◌, ◌++◌, map, take, length, get_or, AllPairs, Result, Ok, Err, Some, None, unwrap_or, refl, sym, ap, ◌∙◌, inl, inr, append_assoc, arith}
use Rattle.std.specs.List.{AllByRecursion, position_from}
use Rattle.std.specs.Str.{bytes_eq}
use Rattle.std.proofs.lemmas.Bool.{cases_Bool, ltb-false, lt-ltb, or_parts, and_from, eq-eqb}
use Rattle.std.proofs.lemmas.List.{append-nil, length-map, length-append, take_all, map_push, map-append, get_or-map, get_or_append_left}
use Rattle.std.proofs.lemmas.Simd.{map-map}
use Rattle.std.proofs.lemmas.List.Elements.{All-from_recursion}
use Rattle.std.proofs.lemmas.List.Quantifiers.{all_pairs_push}
use Rattle.std.proofs.lemmas.Slice.Eq.{bytes_eq-Decides}
use Rattle.std.specs.Prelude.{IfOk}
use Rattle.toml.specs.Data.{Data, Members, no_members}
use Rattle.stn_model.specs.declared.plant.Plant.{Plant}
use Rattle.stn_model.specs.Sound.{Within, Sound}
use Rattle.plant_text.specs.declared.fault.PlantStop.{PlantStop}
use Rattle.plant_text.specs.declared.fault.PlantStop.TheVariants as stop
use Rattle.plant_text.specs.Tests.{Test, rows_tests, Gives}
use Rattle.plant_text.specs.Reading as reading
use Rattle.plant_text.specs.Fields.{is_before}
use Rattle.plant_text.specs.Names.{name_in, first_places}
use Rattle.stn_model.specs.declared.plant.State.{State}
use Rattle.stn_model.specs.declared.plant.Utility.{Utility}
use Rattle.stn_model.specs.declared.plant.StnUnit.{StnUnit}
use Rattle.stn_model.specs.declared.plant.Task.{Task}
use Rattle.stn_model.specs.declared.plant.Run.{Run}
use Rattle.stn_model.specs.declared.plant.Gap.{Gap}
use Rattle.stn_model.specs.Sound.{SoundState, SoundUtility, SoundUnit, SoundTask, SoundRun, SoundGap, SoundReceipt, SoundDelivery, SoundOutage}
use Rattle.plant_text.specs.declared.fault.KeyName.TheVariants as key
use Rattle.plant_text.specs.Fields.{fields_tests, value_tests, moment, count, count_of, at_key, held, items_at, needed, optional, since, beside}
use Rattle.plant_text.specs.Scope.{Scope}
use Rattle.plant_text.specs.Tables.{state_fields, state_tests, state_of, utility_fields, utility_tests, utility_of, unit_fields, unit_tests, unit_of, last_tests, task_fields, task_tests, task_of, has_run, run_tests, run_more_tests, run_of, gap_of, receipt_of, delivery_of, outage_of}
use Rattle.plant_text.specs.Document.{top_place, version_of, is_second, is_third, scope_in, size_fields, has_third, calendar_fields, named_fields, referring_fields, lasts_tests, plant_with, plant_in, size_tests, unknown_tests, document_tests, document_of, plant_tests, plant_of}
use Rattle.plant_text.proofs.SoundItems.{state_sound, utility_sound, unit_sound, no_last, run_sound, gap_short, gap_sound, receipt_sound, delivery_sound, outage_sound}
use Rattle.plant_text.proofs.Faults.{nothing}
use Rattle.plant_text.proofs.Limits.{under, few_of}
use Rattle.plant_text.proofs.SoundTasks.{tables_passes, task_sound}
use Rattle.plant_text.proofs.SoundCalendar.{calendar_sound, no_calendar}
use Rattle.plant_text.proofs.Passed.{Pass, Below, first_pass, both_pass, count_needed, name_declared, rows_all, rows_both, rows_pairs}

some_same : (a b : ℕ) → Some a ≡ Some b → a ≡ b
some_same a b e = cc

-- a first place is in the list
position_below : (p : List ℕ → Bool) (i : ℕ) (xs : List (List ℕ)) (k : ℕ) → position_from p i xs ≡ Some k → k < i + length xs
position_below p i [] k e = absurd cc
position_below p i (x ∷ xs) k e =
    elim (cases_Bool (p x)) [
      | inl holds ↦ let here : Some i ≡ Some k = rw holds at e in omega (arith, some_same i k here)
      | inr fails ↦ omega (arith, position_below p (i + 1) xs k (rw fails at e))
    ]

-- where a name stands there is a first place, no later
position_at : (p : List ℕ → Bool) (i : ℕ) (xs : List (List ℕ)) (k : ℕ) (d : List ℕ) → k < length xs → p (get_or xs k d) ≡ true → (j : ℕ) × (position_from p i xs ≡ Some j) × (j ≤ i + k)
position_at p i [] k d lt at_k = absurd (omega arith)
position_at p i (x ∷ xs) zero d lt at_k = (i, rw at_k refl, omega arith)
position_at p i (x ∷ xs) (suc k) d lt at_k =
    elim (cases_Bool (p x)) [
      | inl e ↦ (i, rw e refl, omega arith)
      | inr e ↦
          let later = position_at p (i + 1) xs k d (omega arith) at_k in
          (later.0, rw e later.1, omega (arith, later.2))
    ]

-- the names of an array lead to its items
pub below_names : (names : List (List ℕ)) (bound : ℕ) → length names ≤ bound → Below bound (first_places names)
below_names names bound le name k e = omega (arith, position_below (bytes_eq name) 0 names k e)

-- a name that no earlier item has
module _ {X Y : Type 0} (name : Y → List ℕ) (value : X → Y) (tests : List Y → X → List Test) (names : List (List ℕ))
    (fresh : (earlier : List Y) (x : X) → Pass (tests earlier x) → is_before (first_places names (name (value x))) (length earlier) ≡ false) where
  differs : (done : List X) (x : X) (xs : List X) → names ≡ map name (map value (done ++ x ∷ xs)) → is_before (first_places names (name (value x))) (length (map value done)) ≡ false
      → (k : ℕ) (d : Y) → k < length (map value done) → name (get_or (map value done) k d) ≢ name (value x)
  differs done x xs are new k d lt same =
      let all : length names ≡ length done + suc (length xs) = rw are (simp (length-map, length-append) refl) in
      let looked : get_or names k (name d) ≡ name (get_or (map value done) k d) =
      rw are (rw (map-append value done (x ∷ xs)) (get_or-map name (map value done ++ map value (x ∷ xs)) k d (name d) (omega (arith, length-append (map value done) (map value (x ∷ xs)))) ∙ ap name (get_or_append_left (map value done) (map value (x ∷ xs)) d k lt))) in
      let stands : bytes_eq (name (value x)) (get_or names k (name d)) ≡ true = rw (looked, same) ((bytes_eq-Decides (name (value x)) (name (value x))).1 refl) in
      let found = position_at (bytes_eq (name (value x))) 0 names k (name d) (omega (arith, length-map done value)) stands in
      let old : is_before (first_places names (name (value x))) (length (map value done)) ≡ true = rw found.1 (lt-ltb _ _ (omega (arith, found.2))) in
      cc

  -- items that pass have names of their own
  pub names_apart : (done xs : List X) → names ≡ map name (map value (done ++ xs)) → AllPairs (λ a b. name a ≢ name b) (map value done) → Pass (rows_tests tests value (map value done) xs)
      → AllPairs (λ a b. name a ≢ name b) (map value (done ++ xs))
  names_apart done [] are apart e = rw append-nil apart
  names_apart done (x ∷ xs) are apart e =
      let both = both_pass (tests (map value done) x) (rows_tests tests value (map value done ++ value x ∷ []) xs) e in
      let joined : done ++ (x ∷ xs) ≡ (done ++ x ∷ []) ++ xs = sym (append_assoc done (x ∷ []) xs) in
      let pushed : map value (done ++ x ∷ []) ≡ map value done ++ value x ∷ [] = map_push value done x in
      let more = all_pairs_push (λ a b. name a ≢ name b) (map value done) (value x) apart (differs done x xs are (fresh (map value done) x both.0)) in
      rw joined (names_apart (done ++ x ∷ []) xs (rw joined at are) (rw pushed more) (rw pushed both.1))

-- the names of an array of at most so many items: each leads to an item, and no two items share one
module _ {Y : Type 0} (name : Y → List ℕ) (value : Data → Y) (is : name_in ≡ (λ d. name (value d))) where
  names_are : (ds : List Data) (most : ℕ) → length ds ≤ most → map name_in (take most ds) ≡ map name (map value ds)
  names_are ds most few = rw (is, take_all most ds few) (sym (map-map name value ds))

  pub names_below : (ds : List Data) (most : ℕ) → length ds ≤ most → Below (length (map value ds)) (first_places (map name_in (take most ds)))
  names_below ds most few = rw (names_are ds most few) (below_names (map name (map value ds)) (length (map value ds)) (omega (arith, length-map (map value ds) name)))

  pub names_own : (tests : List Y → Data → List Test) (ds : List Data) (most : ℕ) → length ds ≤ most
      → ((earlier : List Y) (d : Data) → Pass (tests earlier d) → is_before (first_places (map name_in (take most ds)) (name (value d))) (length earlier) ≡ false)
      → Pass (rows_tests tests value [] ds) → AllPairs (λ a b. name a ≢ name b) (map value ds)
  names_own tests ds most few fresh e =
      names_apart name value tests (map name_in (take most ds)) fresh [] ds (names_are ds most few) (λ i j d lt within. absurd (omega arith)) e

-- an earlier run with the task and the unit would be found
not_found : (earlier : List Run) (run : Run) → has_run earlier run ≡ false → (k : ℕ) (d : Run) → k < length earlier → (get_or earlier k d).task ≡ run.task → (get_or earlier k d).unit ≢ run.unit
not_found [] run none k d lt = absurd (omega arith)
not_found (other ∷ earlier) run none zero d lt = λ task unit.
    let p = or_parts (eqb other.task run.task && eqb other.unit run.unit) (has_run earlier run) none in
    let found : (eqb other.task run.task && eqb other.unit run.unit) ≡ true = and_from _ _ (eq-eqb _ _ task) (eq-eqb _ _ unit) in
    cc
not_found (other ∷ earlier) run none (suc k) d lt =
    not_found earlier run (or_parts (eqb other.task run.task && eqb other.unit run.unit) (has_run earlier run) none).1 k d (omega arith)

state_fresh : (scope : Scope) (number : ℕ) (d : Data) → Pass (state_tests scope number d) → is_before (scope.states (state_of scope d).name) number ≡ false
unfolding state_tests state_fields state_of
state_fresh scope number d e =
    let head = both_pass _ _ e in
    let name = both_pass _ _ head.1 in
    (name_declared _ _ _ _ _ refl name.0).1

utility_fresh : (scope : Scope) (number : ℕ) (d : Data) → Pass (utility_tests scope number d) → is_before (scope.utilities (utility_of scope d).name) number ≡ false
unfolding utility_tests utility_fields utility_of
utility_fresh scope number d e =
    let head = both_pass _ _ e in
    let name = both_pass _ _ head.1 in
    (name_declared _ _ _ _ _ refl name.0).1

unit_fresh : (scope : Scope) (number : ℕ) (d : Data) → Pass (unit_tests scope number d) → is_before (scope.units (unit_of scope d).name) number ≡ false
unfolding unit_tests unit_fields unit_of
unit_fresh scope number d e =
    let head = both_pass _ _ e in
    let name = both_pass _ _ head.1 in
    (name_declared _ _ _ _ _ refl name.0).1

task_fresh : (scope : Scope) (number : ℕ) (d : Data) → Pass (task_tests scope number d) → is_before (scope.tasks (task_of scope d).name) number ≡ false
unfolding task_tests task_fields task_of
task_fresh scope number d e =
    let head = both_pass _ _ e in
    let name = both_pass _ _ head.1 in
    (name_declared _ _ _ _ _ refl name.0).1

run_fresh : (scope : Scope) (earlier : List Run) (d : Data) → Pass (run_tests scope earlier d) → has_run earlier (run_of scope d) ≡ false
unfolding run_tests run_more_tests
run_fresh scope earlier d e =
    let whole = both_pass _ _ e in
    let order = first_pass _ _ _ whole.1 in
    (first_pass _ _ _ order.1).0

state_names : (scope : Scope) → name_in ≡ (λ d. (state_of scope d).name)
unfolding state_of
state_names scope = refl

utility_names : (scope : Scope) → name_in ≡ (λ d. (utility_of scope d).name)
unfolding utility_of
utility_names scope = refl

unit_names : (scope : Scope) → name_in ≡ (λ d. (unit_of scope d).name)
unfolding unit_of
unit_names scope = refl

task_names : (scope : Scope) → name_in ≡ (λ d. (task_of scope d).name)
unfolding task_of
task_names scope = refl

-- utilities of a file that is not of version 3 have no rates by period
no_rates : (scope : Scope) → scope.third ≡ false → (ds : List Data) → AllByRecursion (λ (u : Utility). u.rates ≡ []) (map (utility_of scope) ds)
unfolding utility_of
no_rates scope not_third [] = tt
no_rates scope not_third (d ∷ ds) = (rw not_third refl, no_rates scope not_third ds)

-- nor was a unit of such a file held by a batch before
no_lasts : (scope : Scope) → scope.third ≡ false → (ds : List Data) → AllByRecursion (λ (u : StnUnit). u.last ≡ None) (map (unit_of scope) ds)
no_lasts scope not_third [] = tt
no_lasts scope not_third (d ∷ ds) = (no_last scope not_third d, no_lasts scope not_third ds)

-- nor has anything of such a file a label or a colour
no_state_labels : (scope : Scope) → scope.third ≡ false → (ds : List Data) → AllByRecursion (λ (s : State). s.label ≡ []) (map (state_of scope) ds)
unfolding state_of
no_state_labels scope not_third [] = tt
no_state_labels scope not_third (d ∷ ds) = (rw not_third refl, no_state_labels scope not_third ds)

no_utility_labels : (scope : Scope) → scope.third ≡ false → (ds : List Data) → AllByRecursion (λ (u : Utility). u.label ≡ []) (map (utility_of scope) ds)
unfolding utility_of
no_utility_labels scope not_third [] = tt
no_utility_labels scope not_third (d ∷ ds) = (rw not_third refl, no_utility_labels scope not_third ds)

no_unit_labels : (scope : Scope) → scope.third ≡ false → (ds : List Data) → AllByRecursion (λ (u : StnUnit). u.label ≡ []) (map (unit_of scope) ds)
unfolding unit_of
no_unit_labels scope not_third [] = tt
no_unit_labels scope not_third (d ∷ ds) = (rw not_third refl, no_unit_labels scope not_third ds)

no_task_labels : (scope : Scope) → scope.third ≡ false → (ds : List Data) → AllByRecursion (λ (t : Task). t.label ≡ []) (map (task_of scope) ds)
unfolding task_of
no_task_labels scope not_third [] = tt
no_task_labels scope not_third (d ∷ ds) = (rw not_third refl, no_task_labels scope not_third ds)

no_colours : (scope : Scope) → scope.third ≡ false → (ds : List Data) → AllByRecursion (λ (t : Task). t.colour ≡ []) (map (task_of scope) ds)
unfolding task_of
no_colours scope not_third [] = tt
no_colours scope not_third (d ∷ ds) = (rw not_third refl, no_colours scope not_third ds)

within_either : (second : Bool) (n : ℕ) → Within 1 (cond second 336 96) n → Within 1 336 n
within_either true n h = h
within_either false n h = (h.0, omega (arith, h.1))

pub plant_sound : (document : Members) → Pass (document_tests document) → Sound (plant_in document)
unfolding document_tests plant_in plant_with size_tests scope_in
plant_sound document e =
    let scope = scope_in document in
    let plant = plant_in document in
    let known = both_pass (unknown_tests document) _ e in
    let sizes = both_pass (fields_tests top_place document (size_fields (is_second document) (is_third document))) _ known.1 in
    let timed = both_pass (fields_tests top_place document (calendar_fields (is_third document) document)) _ sizes.1 in
    let named = both_pass (fields_tests top_place document (named_fields scope)) _ timed.1 in
    let lasts = both_pass (lasts_tests scope document) _ named.1 in
    let referring = both_pass (fields_tests top_place document (referring_fields scope)) (size_tests plant) lasts.1 in
    let number = version_of (is_second document) (is_third document) in
    let most = cond (is_second document) 336 96 in
    let version = both_pass (value_tests top_place (needed key.Version) (count number number) (held document (needed key.Version))) (value_tests top_place (needed key.Periods) (count 1 most) (held document (needed key.Periods)) ++ []) sizes.0 in
    let periods = both_pass (value_tests top_place (needed key.Periods) (count 1 most) (held document (needed key.Periods))) [] version.1 in
    let start_key = beside (is_third document) (has_third (is_third document) document key.Minutes) key.Start in
    let minutes_key = beside (is_third document) (has_third (is_third document) document key.Start) key.Minutes in
    let start = both_pass (value_tests top_place start_key moment (held document start_key)) (value_tests top_place minutes_key (count 1 10080) (held document minutes_key) ++ []) timed.0 in
    let minutes = both_pass (value_tests top_place minutes_key (count 1 10080) (held document minutes_key)) [] start.1 in
    let state = both_pass _ _ named.0 in
    let utility = both_pass _ _ state.1 in
    let unit = both_pass _ _ utility.1 in
    let task = both_pass _ _ unit.1 in
    let run = both_pass _ _ referring.0 in
    let gap = both_pass _ _ run.1 in
    let receipt = both_pass _ _ gap.1 in
    let delivery = both_pass _ _ receipt.1 in
    let outage = both_pass _ _ delivery.1 in
    let slots = first_pass _ _ _ referring.1 in
    let pairs = first_pass _ _ _ slots.1 in
    let states = tables_passes _ _ _ _ _ nothing state.0 in
    let utilities = tables_passes _ _ _ _ _ nothing utility.0 in
    let units = tables_passes _ _ _ _ _ nothing unit.0 in
    let tasks = tables_passes _ _ _ _ _ nothing task.0 in
    let runs = tables_passes _ _ _ _ _ nothing run.0 in
    let gaps = tables_passes _ _ _ _ _ nothing gap.0 in
    let receipts = tables_passes _ _ _ _ _ nothing receipt.0 in
    let deliveries = tables_passes _ _ _ _ _ nothing delivery.0 in
    let outages = tables_passes _ _ _ _ _ nothing outage.0 in
    let third = is_third document in
    let state_count = length-map (items_at document (optional key.State)) (state_of scope) in
    let utility_count = length-map (items_at document (optional key.Utility)) (utility_of scope) in
    let unit_count = length-map (items_at document (optional key.StnUnit)) (unit_of scope) in
    let task_count = length-map (items_at document (optional key.Task)) (task_of scope) in
    let run_count = length-map (items_at document (optional key.Run)) (run_of scope) in
    let gap_count = length-map (items_at document (optional key.Gap)) (gap_of scope) in
    let receipt_count = length-map (items_at document (optional key.Receipt)) (receipt_of scope) in
    let delivery_count = length-map (items_at document (optional key.Delivery)) (delivery_of scope) in
    let outage_count = length-map (items_at document (since (is_second document) key.Outage)) (outage_of scope) in
    let gaps_few : length (items_at document (optional key.Gap)) ≤ 4096 = gaps.few in
    let slots_few = ltb-false _ _ slots.0 in
    let pairs_few = ltb-false _ _ pairs.0 in
    let to_states = names_below (λ (s : State). s.name) (state_of scope) (state_names scope) (items_at document (optional key.State)) (cond third 160 40) states.few in
    let to_utilities = names_below (λ (u : Utility). u.name) (utility_of scope) (utility_names scope) (items_at document (optional key.Utility)) (cond third 64 8) utilities.few in
    let to_units = names_below (λ (u : StnUnit). u.name) (unit_of scope) (unit_names scope) (items_at document (optional key.StnUnit)) (cond third 96 24) units.few in
    let to_tasks = names_below (λ (t : Task). t.name) (task_of scope) (task_names scope) (items_at document (optional key.Task)) (cond third 160 40) tasks.few in
    record {
      counts = record {
        periods = within_either (is_second document) _ (count_needed top_place (needed key.Periods) 1 most (held document (needed key.Periods)) refl periods.0);
        states = omega (arith, state_count, under third 40 160 _ (omega arith) states.few);
        utilities = omega (arith, utility_count, under third 8 64 _ (omega arith) utilities.few);
        units = omega (arith, unit_count, under third 24 96 _ (omega arith) units.few);
        tasks = omega (arith, task_count, under third 40 160 _ (omega arith) tasks.few);
        runs = omega (arith, run_count, under third 64 256 _ (omega arith) runs.few);
        gaps = omega (arith, gap_count, gaps_few);
        receipts = omega (arith, receipt_count, under third 256 900 _ (omega arith) receipts.few);
        deliveries = omega (arith, delivery_count, under third 256 900 _ (omega arith) deliveries.few);
        outages = omega (arith, outage_count, under third 256 4096 _ (omega arith) outages.few);
        slots = under third 512 4096 _ (omega arith) slots_few;
        gap_pairs = under third 8192 32768 _ (omega arith) pairs_few;
      };
      calendar = calendar_sound top_place start_key minutes_key (held document start_key) (held document minutes_key) refl start.0 minutes.0;
      small = λ not_third. record {
        states = omega (arith, state_count, few_of third 40 160 _ not_third states.few);
        utilities = omega (arith, utility_count, few_of third 8 64 _ not_third utilities.few);
        units = omega (arith, unit_count, few_of third 24 96 _ not_third units.few);
        tasks = omega (arith, task_count, few_of third 40 160 _ not_third tasks.few);
        runs = omega (arith, run_count, few_of third 64 256 _ not_third runs.few);
        receipts = omega (arith, receipt_count, few_of third 256 900 _ not_third receipts.few);
        deliveries = omega (arith, delivery_count, few_of third 256 900 _ not_third deliveries.few);
        outages = omega (arith, outage_count, few_of third 256 4096 _ not_third outages.few);
        slots = few_of third 512 4096 _ not_third slots_few;
        gap_pairs = few_of third 8192 32768 _ not_third pairs_few;
        rates = All-from_recursion (λ (u : Utility). u.rates ≡ []) _ (no_rates scope not_third _);
        gaps = All-from_recursion (λ (g : Gap). g.periods ≤ 96) _ (rows_all _ (gap_of scope) (λ (g : Gap). g.periods ≤ 96) (λ earlier d h. gap_short scope not_third (length earlier) d h) [] _ gaps.pass);
        lasts = All-from_recursion (λ (u : StnUnit). u.last ≡ None) _ (no_lasts scope not_third _);
        unlabelled = record {
          calendar = no_calendar third not_third document;
          states = All-from_recursion (λ (s : State). s.label ≡ []) _ (no_state_labels scope not_third _);
          utilities = All-from_recursion (λ (u : Utility). u.label ≡ []) _ (no_utility_labels scope not_third _);
          units = All-from_recursion (λ (u : StnUnit). u.label ≡ []) _ (no_unit_labels scope not_third _);
          tasks = All-from_recursion (λ (t : Task). t.label ≡ []) _ (no_task_labels scope not_third _);
          colours = All-from_recursion (λ (t : Task). t.colour ≡ []) _ (no_colours scope not_third _);
        };
      };
      names = record {
        states = names_own (λ (s : State). s.name) (state_of scope) (state_names scope) (λ earlier d. state_tests scope (length earlier) d) _ (cond third 160 40) states.few (λ earlier d h. state_fresh scope (length earlier) d h) states.pass;
        utilities = names_own (λ (u : Utility). u.name) (utility_of scope) (utility_names scope) (λ earlier d. utility_tests scope (length earlier) d) _ (cond third 64 8) utilities.few (λ earlier d h. utility_fresh scope (length earlier) d h) utilities.pass;
        units = names_own (λ (u : StnUnit). u.name) (unit_of scope) (unit_names scope) (λ earlier d. unit_tests scope (length earlier) d) _ (cond third 96 24) units.few (λ earlier d h. unit_fresh scope (length earlier) d h) units.pass;
        tasks = names_own (λ (t : Task). t.name) (task_of scope) (task_names scope) (λ earlier d. task_tests scope (length earlier) d) _ (cond third 160 40) tasks.few (λ earlier d h. task_fresh scope (length earlier) d h) tasks.pass;
        runs = rows_pairs (run_tests scope) (run_of scope) (λ a b. a.task ≡ b.task → a.unit ≢ b.unit) (λ earlier d h k x lt. not_found earlier (run_of scope d) (run_fresh scope earlier d h) k x lt) [] _ (λ i j d lt within. absurd (omega arith)) runs.pass;
      };
      states = All-from_recursion (SoundState _) _ (rows_all _ (state_of scope) (SoundState _) (λ earlier d h. state_sound scope (length earlier) d h) [] _ states.pass);
      utilities = All-from_recursion (SoundUtility _) _ (rows_all _ (utility_of scope) (SoundUtility _) (λ earlier d h. utility_sound scope (length earlier) d h) [] _ utilities.pass);
      units = All-from_recursion (SoundUnit plant) _ (rows_both _ (last_tests scope) (unit_of scope) (SoundUnit plant) (λ earlier place d h told. unit_sound scope plant to_tasks refl (length earlier) place d h told) [] 0 _ units.pass lasts.0);
      tasks = All-from_recursion (SoundTask plant) _ (rows_all _ (task_of scope) (SoundTask plant) (λ earlier d h. task_sound scope plant (length earlier) d to_states to_utilities h) [] _ tasks.pass);
      runs = All-from_recursion (SoundRun plant) _ (rows_all _ (run_of scope) (SoundRun plant) (λ earlier d h. run_sound scope plant to_tasks to_units earlier d h) [] _ runs.pass);
      gaps = All-from_recursion (SoundGap plant) _ (rows_all _ (gap_of scope) (SoundGap plant) (λ earlier d h. gap_sound scope plant to_tasks to_units (length earlier) d h) [] _ gaps.pass);
      receipts = All-from_recursion (SoundReceipt plant) _ (rows_all _ (receipt_of scope) (SoundReceipt plant) (λ earlier d h. receipt_sound scope plant to_states refl (length earlier) d h) [] _ receipts.pass);
      deliveries = All-from_recursion (SoundDelivery plant) _ (rows_all _ (delivery_of scope) (SoundDelivery plant) (λ earlier d h. delivery_sound scope plant to_states refl (length earlier) d h) [] _ deliveries.pass);
      outages = All-from_recursion (SoundOutage plant) _ (rows_all _ (outage_of scope) (SoundOutage plant) (λ earlier d h. outage_sound scope plant to_units refl (length earlier) d h) [] _ outages.pass);
    }

-- an answer by the tests of the bytes is what reading gives
pub read_gives : (bytes : List ℕ) (answer : Result Plant PlantStop) → Gives answer (plant_tests bytes) (plant_of bytes) → reading.ReadsPlant answer (reading.reading bytes)
unfolding reading.reading
read_gives bytes (Ok plant) h = rw (h.0, h.1) refl
read_gives bytes (Err stop.Memory) h = tt
read_gives bytes (Err (stop.Fault f)) h = rw h refl

-- a plant that is read is sound
pub read_sound : (bytes : List ℕ) (answer : Result Plant PlantStop) → Gives answer (plant_tests bytes) (plant_of bytes) → IfOk answer Sound
unfolding plant_tests plant_of
read_sound bytes (Ok plant) h =
    let long = first_pass _ _ _ h.0 in
    let found = first_pass _ _ _ long.1 in
    rw h.1 (plant_sound (unwrap_or (document_of bytes) no_members) found.1)
read_sound bytes (Err e) h = tt

-- a horizon that passes is short enough
pub horizon_small : (document : Members) (second third : Bool) → Pass (fields_tests top_place document (size_fields second third)) → at_key count_of 0 document (needed key.Periods) ≤ 336
horizon_small document second third e =
    let number = version_of second third in
    let most = cond second 336 96 in
    let version = both_pass (value_tests top_place (needed key.Version) (count number number) (held document (needed key.Version))) (value_tests top_place (needed key.Periods) (count 1 most) (held document (needed key.Periods)) ++ []) e in
    let periods = both_pass (value_tests top_place (needed key.Periods) (count 1 most) (held document (needed key.Periods))) [] version.1 in
    (within_either second _ (count_needed top_place (needed key.Periods) 1 most (held document (needed key.Periods)) refl periods.0)).1

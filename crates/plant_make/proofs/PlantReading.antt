-- The document of a plant is read as the plant.
use Rattle.std.proofs.Common.{◌≡◌, ◌≢◌, ℕ, ◌≤◌, nat_lt, Bool, true, false, cond, ◌&&◌, ◌||◌, eqb, List, [], ◌++◌, map, take, length, get_or, AllPairs, Option, Some, None, option_map, unwrap_or, refl, ap, inl, inr, arith}
use Rattle.std.proofs.lemmas.Bool.{cases_Bool, and_parts, eqb-true}
use Rattle.std.proofs.lemmas.Bool.Decides.{nat_tests}
use Rattle.std.proofs.lemmas.List.{length-map, take_all}
use Rattle.toml.specs.Data.{Data, Members}
use Rattle.stn_model.specs.declared.plant.Plant.{Plant}
use Rattle.stn_model.specs.declared.plant.State.{State}
use Rattle.stn_model.specs.declared.plant.Utility.{Utility}
use Rattle.stn_model.specs.declared.plant.StnUnit.{StnUnit}
use Rattle.stn_model.specs.declared.plant.Task.{Task}
use Rattle.stn_model.specs.declared.plant.Run.{Run}
use Rattle.stn_model.specs.declared.plant.Gap.{Gap}
use Rattle.stn_model.specs.declared.plant.Receipt.{Receipt}
use Rattle.stn_model.specs.declared.plant.Delivery.{Delivery}
use Rattle.stn_model.specs.declared.plant.Outage.{Outage}
use Rattle.stn_model.specs.Plant.{no_state, no_utility, no_unit, no_task}
use Rattle.stn_model.specs.Points.{slot_count, gap_pairs}
use Rattle.stn_model.specs.Sound.{Sound, SoundState, SoundUtility, SoundUnit, SoundTask, SoundRun, SoundGap, SoundReceipt, SoundDelivery, SoundOutage}
use Rattle.plant_text.specs.declared.fault.KeyName.TheVariants as key
use Rattle.plant_text.specs.declared.find.Key.{Key}
use Rattle.plant_text.specs.Words.{key_word}
use Rattle.plant_text.specs.Tests.{rows_tests, numbered_tests}
use Rattle.plant_text.specs.Fields.{held, needed, optional, since, beside, items_of, items_at, at_key, count_of}
use Rattle.plant_text.specs.Names.{name_in, first_places}
use Rattle.plant_text.specs.Scope.{Scope}
use Rattle.plant_text.specs.Tables.{has_run, state_tests, state_of, utility_tests, utility_of, unit_tests, unit_of, last_tests, task_tests, task_of, run_tests, run_of, gap_tests, gap_of, receipt_tests, receipt_of, delivery_tests, delivery_of, outage_tests, outage_of}
use Rattle.plant_text.specs.Document.{is_second, is_third, scope_in, size_fields, has_third, calendar_fields, named_fields, referring_fields, lasts_tests, plant_with, plant_in, size_tests, unknown_tests, document_tests, top_place}
use Rattle.plant_text.specs.Fields as fields
use Rattle.plant_text.proofs.Faults.{passes, nothing}
use Rattle.plant_make.specs.Entries.{table_of, number, some_items}
use Rattle.plant_make.specs.Printed.{made_of, start_of, minutes_of, state_entries, utility_entries, unit_entries, task_entries, run_entries, gap_entries, receipt_entries, delivery_entries, outage_entries, plant_entries}
use Rattle.plant_make.proofs.Lists.{IsNext, named_at, rows_read, numbered_read, at_next, map_same, none_any}
use Rattle.plant_make.proofs.Tables.{AreKnown, held_is, held_maybe, held_since, all_known}
use Rattle.plant_make.proofs.Labels.{calendar_ok, calendar_back}
use Rattle.plant_make.proofs.Passing.{Pass, count_ok, maybe_tables_ok, items_back, one_more}
use Rattle.plant_make.proofs.Reading.{IsScopeOf, state_ok, utility_ok, unit_ok, last_ok, run_ok, gap_ok, receipt_ok, delivery_ok, outage_ok}
use Rattle.plant_make.proofs.TaskReading.{task_ok}

-- the scope that a plant is read against
abbrev scope_for : Plant → Scope
scope_for plant = record {
  second = true;
  third = plant.large;
  periods = plant.periods;
  states = first_places (map (λ (state : State). state.name) plant.states);
  utilities = first_places (map (λ (utility : Utility). utility.name) plant.utilities);
  units = first_places (map (λ (unit : StnUnit). unit.name) plant.units);
  tasks = first_places (map (λ (task : Task). task.name) plant.tasks);
}

is_scope : (plant : Plant) → Sound plant → IsScopeOf plant (scope_for plant)
is_scope plant sound = record {
  second = refl;
  third = refl;
  periods = refl;
  states = λ k within. named_at (λ (state : State). state.name) plant.states k no_state sound.names.states within;
  utilities = λ k within. named_at (λ (utility : Utility). utility.name) plant.utilities k no_utility sound.names.utilities within;
  units = λ k within. named_at (λ (unit : StnUnit). unit.name) plant.units k no_unit sound.names.units within;
  tasks = λ k within. named_at (λ (task : Task). task.name) plant.tasks k no_task sound.names.tasks within;
}

-- the records as they are printed
abbrev state_made : State → Data
state_made state = made_of (state_entries state)

abbrev utility_made : Utility → Data
utility_made utility = made_of (utility_entries utility)

abbrev unit_made : Plant → StnUnit → Data
unit_made plant unit = made_of (unit_entries plant unit)

abbrev task_made : Plant → Task → Data
task_made plant task = made_of (task_entries plant task)

abbrev run_made : Plant → Run → Data
run_made plant run = made_of (run_entries plant run)

abbrev gap_made : Plant → Gap → Data
gap_made plant gap = made_of (gap_entries plant gap)

abbrev receipt_made : Plant → Receipt → Data
receipt_made plant receipt = made_of (receipt_entries plant receipt)

abbrev delivery_made : Plant → Delivery → Data
delivery_made plant delivery = made_of (delivery_entries plant delivery)

abbrev outage_made : Plant → Outage → Data
outage_made plant outage = made_of (outage_entries plant outage)

-- the names that printed records declare
state_named : (state : State) → name_in (state_made state) ≡ state.name
unfolding state_entries key_word
state_named state = rw (held_is (needed key.Name) (state_entries state) _ refl refl) refl

utility_named : (utility : Utility) → name_in (utility_made utility) ≡ utility.name
unfolding utility_entries key_word
utility_named utility = rw (held_is (needed key.Name) (utility_entries utility) _ refl refl) refl

unit_named : (plant : Plant) (unit : StnUnit) → name_in (unit_made plant unit) ≡ unit.name
unfolding unit_entries key_word
unit_named plant unit = rw (held_is (needed key.Name) (unit_entries plant unit) _ refl refl) refl

task_named : (plant : Plant) (task : Task) → name_in (task_made plant task) ≡ task.name
unfolding task_entries key_word
task_named plant task = rw (held_is (needed key.Name) (task_entries plant task) _ refl refl) refl

names_are : {X : Type 0} (made : X → Data) (name : X → List ℕ) (xs : List X) (most : ℕ) (o : Option Data) → o ≡ some_items (map made xs) → length xs ≤ most → ((x : X) → name_in (made x) ≡ name x)
    → first_places (map name_in (take most (unwrap_or (option_map items_of o) []))) ≡ first_places (map name xs)
names_are made name xs most o is few named =
    let items = items_back (map made xs) o is in
    let short : length (map made xs) ≤ most = rw (length-map xs made) few in
    let all = take_all most (map made xs) short in
    rw (items, all) (ap first_places (map_same name_in made name named xs))

-- the runs before a run are of other tasks or units
alone : (whole earlier : List Run) (run : Run) → AllPairs (λ (a b : Run). a.task ≡ b.task → a.unit ≢ b.unit) whole → IsNext whole earlier run → has_run earlier run ≡ false
alone whole earlier run apart next =
    none_any (λ (other : Run). eqb other.task run.task && eqb other.unit run.unit) earlier (λ k other within.
    elim (cases_Bool (eqb (get_or earlier k other).task run.task && eqb (get_or earlier k other).unit run.unit)) [
      | inl e ↦
          let parts = and_parts (eqb (get_or earlier k other).task run.task) (eqb (get_or earlier k other).unit run.unit) e in
          let here : get_or earlier k other ≡ get_or whole k other = next.before k other within in
          let there : get_or whole (length earlier) other ≡ run = next.is other in
          let task : (get_or whole k other).task ≡ (get_or whole (length earlier) other).task = rw (← here, there) (eqb-true _ _ parts.0) in
          let unit : (get_or whole k other).unit ≡ (get_or whole (length earlier) other).unit = rw (← here, there) (eqb-true _ _ parts.1) in
          absurd (apart k (length earlier) other within next.within task unit)
      | inr e ↦ e
    ])

module _ (plant : Plant) (sound : Sound plant) where
  abbrev scope : Scope
  scope = scope_for plant

  reads : IsScopeOf plant scope
  reads = is_scope plant sound

  states_read : Pass (rows_tests (λ (earlier : List State) (d : Data). state_tests scope (length earlier) d) (state_of scope) [] (map state_made plant.states)) × (map (state_of scope) (map state_made plant.states) ≡ plant.states)
  states_read =
      rows_read (λ (earlier : List State) (d : Data). state_tests scope (length earlier) d) (state_of scope) state_made plant.states (λ earlier state next.
      state_ok scope plant (length earlier) state reads (at_next (SoundState plant.periods) plant.states earlier state sound.states next)
      (λ is. at_next (λ (state : State). state.label ≡ []) plant.states earlier state (sound.small is).unlabelled.states next)
      (rw (← next.is no_state) (reads.states (length earlier) next.within)))

  utilities_read : Pass (rows_tests (λ (earlier : List Utility) (d : Data). utility_tests scope (length earlier) d) (utility_of scope) [] (map utility_made plant.utilities)) × (map (utility_of scope) (map utility_made plant.utilities) ≡ plant.utilities)
  utilities_read =
      rows_read (λ (earlier : List Utility) (d : Data). utility_tests scope (length earlier) d) (utility_of scope) utility_made plant.utilities (λ earlier utility next.
      utility_ok scope plant (length earlier) utility reads (at_next (SoundUtility plant.periods) plant.utilities earlier utility sound.utilities next)
      (λ is. at_next (λ (utility : Utility). utility.rates ≡ []) plant.utilities earlier utility (sound.small is).rates next)
      (λ is. at_next (λ (utility : Utility). utility.label ≡ []) plant.utilities earlier utility (sound.small is).unlabelled.utilities next) sound.counts.periods.0
      (rw (← next.is no_utility) (reads.utilities (length earlier) next.within)))

  units_read : Pass (rows_tests (λ (earlier : List StnUnit) (d : Data). unit_tests scope (length earlier) d) (unit_of scope) [] (map (unit_made plant) plant.units)) × (map (unit_of scope) (map (unit_made plant) plant.units) ≡ plant.units)
  units_read =
      rows_read (λ (earlier : List StnUnit) (d : Data). unit_tests scope (length earlier) d) (unit_of scope) (unit_made plant) plant.units (λ earlier unit next.
      unit_ok scope plant (length earlier) unit reads (at_next (SoundUnit plant) plant.units earlier unit sound.units next)
      (λ is. at_next (λ (unit : StnUnit). unit.last ≡ None) plant.units earlier unit (sound.small is).lasts next)
      (λ is. at_next (λ (unit : StnUnit). unit.label ≡ []) plant.units earlier unit (sound.small is).unlabelled.units next)
      (rw (← next.is no_unit) (reads.units (length earlier) next.within)))

  -- the tasks that units name are declared
  lasts_read : Pass (numbered_tests (last_tests scope) 0 (map (unit_made plant) plant.units))
  lasts_read =
      numbered_read (last_tests scope) (unit_made plant) plant.units (λ earlier unit next number.
      last_ok scope plant number unit reads (at_next (SoundUnit plant) plant.units earlier unit sound.units next)
      (λ is. at_next (λ (unit : StnUnit). unit.last ≡ None) plant.units earlier unit (sound.small is).lasts next))

  tasks_read : Pass (rows_tests (λ (earlier : List Task) (d : Data). task_tests scope (length earlier) d) (task_of scope) [] (map (task_made plant) plant.tasks)) × (map (task_of scope) (map (task_made plant) plant.tasks) ≡ plant.tasks)
  tasks_read =
      rows_read (λ (earlier : List Task) (d : Data). task_tests scope (length earlier) d) (task_of scope) (task_made plant) plant.tasks (λ earlier task next.
      task_ok scope plant (length earlier) task reads (at_next (SoundTask plant) plant.tasks earlier task sound.tasks next)
      (λ is.
      let unlabelled = (sound.small is).unlabelled in
      (at_next (λ (task : Task). task.label ≡ []) plant.tasks earlier task unlabelled.tasks next, at_next (λ (task : Task). task.colour ≡ []) plant.tasks earlier task unlabelled.colours next))
      (rw (← next.is no_task) (reads.tasks (length earlier) next.within)))

  runs_read : Pass (rows_tests (λ (earlier : List Run) (d : Data). run_tests scope earlier d) (run_of scope) [] (map (run_made plant) plant.runs)) × (map (run_of scope) (map (run_made plant) plant.runs) ≡ plant.runs)
  runs_read =
      rows_read (λ (earlier : List Run) (d : Data). run_tests scope earlier d) (run_of scope) (run_made plant) plant.runs (λ earlier run next.
      run_ok scope plant earlier run reads (at_next (SoundRun plant) plant.runs earlier run sound.runs next) (alone plant.runs earlier run sound.names.runs next))

  gaps_read : Pass (rows_tests (λ (earlier : List Gap) (d : Data). gap_tests scope (length earlier) d) (gap_of scope) [] (map (gap_made plant) plant.gaps)) × (map (gap_of scope) (map (gap_made plant) plant.gaps) ≡ plant.gaps)
  gaps_read =
      rows_read (λ (earlier : List Gap) (d : Data). gap_tests scope (length earlier) d) (gap_of scope) (gap_made plant) plant.gaps (λ earlier gap next.
      gap_ok scope plant (length earlier) gap reads (at_next (SoundGap plant) plant.gaps earlier gap sound.gaps next)
      (λ is. at_next (λ (gap : Gap). gap.periods ≤ 96) plant.gaps earlier gap (sound.small is).gaps next))

  receipts_read : Pass (rows_tests (λ (earlier : List Receipt) (d : Data). receipt_tests scope (length earlier) d) (receipt_of scope) [] (map (receipt_made plant) plant.receipts)) × (map (receipt_of scope) (map (receipt_made plant) plant.receipts) ≡ plant.receipts)
  receipts_read =
      rows_read (λ (earlier : List Receipt) (d : Data). receipt_tests scope (length earlier) d) (receipt_of scope) (receipt_made plant) plant.receipts (λ earlier receipt next.
      receipt_ok scope plant (length earlier) receipt reads (at_next (SoundReceipt plant) plant.receipts earlier receipt sound.receipts next))

  deliveries_read : Pass (rows_tests (λ (earlier : List Delivery) (d : Data). delivery_tests scope (length earlier) d) (delivery_of scope) [] (map (delivery_made plant) plant.deliveries)) × (map (delivery_of scope) (map (delivery_made plant) plant.deliveries) ≡ plant.deliveries)
  deliveries_read =
      rows_read (λ (earlier : List Delivery) (d : Data). delivery_tests scope (length earlier) d) (delivery_of scope) (delivery_made plant) plant.deliveries (λ earlier delivery next.
      delivery_ok scope plant (length earlier) delivery reads (at_next (SoundDelivery plant) plant.deliveries earlier delivery sound.deliveries next))

  outages_read : Pass (rows_tests (λ (earlier : List Outage) (d : Data). outage_tests scope (length earlier) d) (outage_of scope) [] (map (outage_made plant) plant.outages)) × (map (outage_of scope) (map (outage_made plant) plant.outages) ≡ plant.outages)
  outages_read =
      rows_read (λ (earlier : List Outage) (d : Data). outage_tests scope (length earlier) d) (outage_of scope) (outage_made plant) plant.outages (λ earlier outage next.
      outage_ok scope plant (length earlier) outage reads (at_next (SoundOutage plant) plant.outages earlier outage sound.outages next))

-- what the document of a plant holds
record Holds (plant : Plant) (inside : Members) : Type 0 where
  version : held inside (needed key.Version) ≡ Some (number (cond plant.large 3 2))
  periods : held inside (needed key.Periods) ≡ Some (number plant.periods)
  start : held inside (since plant.large key.Start) ≡ start_of plant.calendar
  minutes : held inside (since plant.large key.Minutes) ≡ minutes_of plant.calendar
  states : held inside (optional key.State) ≡ some_items (map state_made plant.states)
  utilities : held inside (optional key.Utility) ≡ some_items (map utility_made plant.utilities)
  units : held inside (optional key.StnUnit) ≡ some_items (map (unit_made plant) plant.units)
  tasks : held inside (optional key.Task) ≡ some_items (map (task_made plant) plant.tasks)
  runs : held inside (optional key.Run) ≡ some_items (map (run_made plant) plant.runs)
  gaps : held inside (optional key.Gap) ≡ some_items (map (gap_made plant) plant.gaps)
  receipts : held inside (optional key.Receipt) ≡ some_items (map (receipt_made plant) plant.receipts)
  deliveries : held inside (optional key.Delivery) ≡ some_items (map (delivery_made plant) plant.deliveries)
  outages : held inside (since true key.Outage) ≡ some_items (map (outage_made plant) plant.outages)

-- a plant that is not large has no calendar
abbrev NoDates : Plant → Type 0
NoDates plant = plant.large ≡ false → plant.calendar ≡ None

no_dates : (plant : Plant) → Sound plant → NoDates plant
no_dates plant sound = λ is. (sound.small is).unlabelled.calendar

document_holds : (plant : Plant) → NoDates plant → Holds plant (table_of (plant_entries plant))
unfolding plant_entries key_word
document_holds plant bare =
    let es = plant_entries plant in
    record {
      version = held_is (needed key.Version) es _ refl refl;
      periods = held_is (needed key.Periods) es _ refl refl;
      start = held_since plant.large key.Start es (start_of plant.calendar) refl (λ small. rw (bare small) refl);
      minutes = held_since plant.large key.Minutes es (minutes_of plant.calendar) refl (λ small. rw (bare small) refl);
      states = held_maybe (optional key.State) es _ refl refl;
      utilities = held_maybe (optional key.Utility) es _ refl refl;
      units = held_maybe (optional key.StnUnit) es _ refl refl;
      tasks = held_maybe (optional key.Task) es _ refl refl;
      runs = held_maybe (optional key.Run) es _ refl refl;
      gaps = held_maybe (optional key.Gap) es _ refl refl;
      receipts = held_maybe (optional key.Receipt) es _ refl refl;
      deliveries = held_maybe (optional key.Delivery) es _ refl refl;
      outages = held_maybe (since true key.Outage) es _ refl refl;
    }

-- the version of a document tells whether its plant is large
third_by : (large : Bool) → eqb (cond large 3 2) 3 ≡ large
third_by true = refl
third_by false = refl

second_by : (large : Bool) → (eqb (cond large 3 2) 2 || eqb (cond large 3 2) 3) ≡ true
second_by true = refl
second_by false = refl

is_second_document : (plant : Plant) (inside : Members) → Holds plant inside → is_second inside ≡ true
is_second_document plant inside holds = rw holds.version (second_by plant.large)

is_third_document : (plant : Plant) (inside : Members) → Holds plant inside → is_third inside ≡ plant.large
is_third_document plant inside holds = rw holds.version (third_by plant.large)

-- the document of a plant is of version 3 where the plant is large
pub third_document : (plant : Plant) → is_third (table_of (plant_entries plant)) ≡ plant.large
unfolding plant_entries key_word
third_document plant =
    let version : held (table_of (plant_entries plant)) (needed key.Version) ≡ Some (number (cond plant.large 3 2)) = held_is (needed key.Version) (plant_entries plant) _ refl refl in
    rw version (third_by plant.large)

-- there are no more of a thing than a plant of its version may have
few_by : (large : Bool) (n many few : ℕ) → n ≤ many → (large ≡ false → n ≤ few) → n ≤ cond large many few
few_by true n many few all small = all
few_by false n many few all small = small refl

-- how many there are of each thing, by whether the plant is large
record CountsBy (plant : Plant) : Type 0 where
  states : length plant.states ≤ cond plant.large 160 40
  utilities : length plant.utilities ≤ cond plant.large 64 8
  units : length plant.units ≤ cond plant.large 96 24
  tasks : length plant.tasks ≤ cond plant.large 160 40
  runs : length plant.runs ≤ cond plant.large 256 64
  receipts : length plant.receipts ≤ cond plant.large 900 256
  deliveries : length plant.deliveries ≤ cond plant.large 900 256
  outages : length plant.outages ≤ cond plant.large 4096 256
  slots : slot_count plant ≤ cond plant.large 4096 512
  gap_pairs : gap_pairs plant ≤ cond plant.large 32768 8192

counts_by : (plant : Plant) → Sound plant → CountsBy plant
counts_by plant sound =
    let counts = sound.counts in
    let small = sound.small in
    record {
      states = few_by plant.large _ 160 40 counts.states (λ is. (small is).states);
      utilities = few_by plant.large _ 64 8 counts.utilities (λ is. (small is).utilities);
      units = few_by plant.large _ 96 24 counts.units (λ is. (small is).units);
      tasks = few_by plant.large _ 160 40 counts.tasks (λ is. (small is).tasks);
      runs = few_by plant.large _ 256 64 counts.runs (λ is. (small is).runs);
      receipts = few_by plant.large _ 900 256 counts.receipts (λ is. (small is).receipts);
      deliveries = few_by plant.large _ 900 256 counts.deliveries (λ is. (small is).deliveries);
      outages = few_by plant.large _ 4096 256 counts.outages (λ is. (small is).outages);
      slots = few_by plant.large _ 4096 512 counts.slots (λ is. (small is).slots);
      gap_pairs = few_by plant.large _ 32768 8192 counts.gap_pairs (λ is. (small is).gap_pairs);
    }

-- the document's scope is the plant's
scope_is : (plant : Plant) (inside : Members) → Sound plant → Holds plant inside → scope_in inside ≡ scope_for plant
unfolding scope_in
scope_is plant inside sound holds =
    let second = is_second_document plant inside holds in
    let third = is_third_document plant inside holds in
    let few = counts_by plant sound in
    let periods : at_key count_of 0 inside (needed key.Periods) ≡ plant.periods = rw holds.periods refl in
    let states = names_are state_made (λ (state : State). state.name) plant.states (cond plant.large 160 40) (held inside (optional key.State)) holds.states few.states state_named in
    let utilities = names_are utility_made (λ (utility : Utility). utility.name) plant.utilities (cond plant.large 64 8) (held inside (optional key.Utility)) holds.utilities few.utilities utility_named in
    let units = names_are (unit_made plant) (λ (unit : StnUnit). unit.name) plant.units (cond plant.large 96 24) (held inside (optional key.StnUnit)) holds.units few.units (unit_named plant) in
    let tasks = names_are (task_made plant) (λ (task : Task). task.name) plant.tasks (cond plant.large 160 40) (held inside (optional key.Task)) holds.tasks few.tasks (task_named plant) in
    rw (second, third, periods, states, utilities, units, tasks) refl

-- the document's plant is the plant
plant_is : (plant : Plant) (inside : Members) → Sound plant → Holds plant inside → plant_in inside ≡ plant
unfolding plant_in plant_with
plant_is plant inside sound holds =
    rw (scope_is plant inside sound holds) (
    let states : items_at inside (optional key.State) ≡ map state_made plant.states = items_back _ _ holds.states in
    let utilities : items_at inside (optional key.Utility) ≡ map utility_made plant.utilities = items_back _ _ holds.utilities in
    let units : items_at inside (optional key.StnUnit) ≡ map (unit_made plant) plant.units = items_back _ _ holds.units in
    let tasks : items_at inside (optional key.Task) ≡ map (task_made plant) plant.tasks = items_back _ _ holds.tasks in
    let runs : items_at inside (optional key.Run) ≡ map (run_made plant) plant.runs = items_back _ _ holds.runs in
    let gaps : items_at inside (optional key.Gap) ≡ map (gap_made plant) plant.gaps = items_back _ _ holds.gaps in
    let receipts : items_at inside (optional key.Receipt) ≡ map (receipt_made plant) plant.receipts = items_back _ _ holds.receipts in
    let deliveries : items_at inside (optional key.Delivery) ≡ map (delivery_made plant) plant.deliveries = items_back _ _ holds.deliveries in
    let outages : items_at inside (since true key.Outage) ≡ map (outage_made plant) plant.outages = items_back _ _ holds.outages in
    let calendar = calendar_back plant.calendar (held inside (since plant.large key.Start)) (held inside (since plant.large key.Minutes)) holds.start holds.minutes sound.calendar in
    rw (states, utilities, units, tasks, runs, gaps, receipts, deliveries, outages)
    (rw (calendar, (states_read plant sound).1, (utilities_read plant sound).1, (units_read plant sound).1, (tasks_read plant sound).1, (runs_read plant sound).1, (gaps_read plant sound).1, (receipts_read plant sound).1, (deliveries_read plant sound).1, (outages_read plant sound).1) refl)
    )

pub not_above : (most n : ℕ) → n ≤ most → nat_lt most n ≡ false
not_above most n few = grind (arith, nat_tests)

sizes_ok : (plant : Plant) → Sound plant → Pass (size_tests plant)
unfolding size_tests
sizes_ok plant sound =
    let few = counts_by plant sound in
    one_more _ _ _ (not_above _ _ few.slots) (one_more _ _ [] (not_above _ _ few.gap_pairs) nothing)

named_ok : (plant : Plant) (inside : Members) → Sound plant → Holds plant inside → Pass (fields.fields_tests top_place inside (named_fields (scope_for plant)))
named_ok plant inside sound holds =
    let few = counts_by plant sound in
    passes _ _ (maybe_tables_ok _ _ _ _ _ _ holds.states refl (rw (length-map plant.states state_made) few.states) (states_read plant sound).0)
    (passes _ _ (maybe_tables_ok _ _ _ _ _ _ holds.utilities refl (rw (length-map plant.utilities utility_made) few.utilities) (utilities_read plant sound).0)
    (passes _ _ (maybe_tables_ok _ _ _ _ _ _ holds.units refl (rw (length-map plant.units (unit_made plant)) few.units) (units_read plant sound).0)
    (passes _ _ (maybe_tables_ok _ _ _ _ _ _ holds.tasks refl (rw (length-map plant.tasks (task_made plant)) few.tasks) (tasks_read plant sound).0) nothing)))

lasts_ok : (plant : Plant) (inside : Members) → Sound plant → Holds plant inside → Pass (lasts_tests (scope_for plant) inside)
lasts_ok plant inside sound holds =
    let units : items_at inside (optional key.StnUnit) ≡ map (unit_made plant) plant.units = items_back _ _ holds.units in
    rw units (lasts_read plant sound)

referring_ok : (plant : Plant) (inside : Members) → Sound plant → Holds plant inside → Pass (fields.fields_tests top_place inside (referring_fields (scope_for plant)))
referring_ok plant inside sound holds =
    let few = counts_by plant sound in
    passes _ _ (maybe_tables_ok _ _ _ _ _ _ holds.runs refl (rw (length-map plant.runs (run_made plant)) few.runs) (runs_read plant sound).0)
    (passes _ _ (maybe_tables_ok _ _ _ _ _ _ holds.gaps refl (rw (length-map plant.gaps (gap_made plant)) sound.counts.gaps) (gaps_read plant sound).0)
    (passes _ _ (maybe_tables_ok _ _ _ _ _ _ holds.receipts refl (rw (length-map plant.receipts (receipt_made plant)) few.receipts) (receipts_read plant sound).0)
    (passes _ _ (maybe_tables_ok _ _ _ _ _ _ holds.deliveries refl (rw (length-map plant.deliveries (delivery_made plant)) few.deliveries) (deliveries_read plant sound).0)
    (passes _ _ (maybe_tables_ok _ _ _ _ _ _ holds.outages refl (rw (length-map plant.outages (outage_made plant)) few.outages) (outages_read plant sound).0) nothing))))

sizes_fields_ok : (plant : Plant) (inside : Members) → Sound plant → Holds plant inside → Pass (fields.fields_tests top_place inside (size_fields true plant.large))
sizes_fields_ok plant inside sound holds =
    passes _ _ (count_ok _ _ _ _ _ _ holds.version (omega arith) (omega arith))
    (passes _ _ (count_ok _ _ _ _ _ _ holds.periods sound.counts.periods.0 sound.counts.periods.1) nothing)

-- the calendar passes the tests of its two keys
dates_ok : (plant : Plant) (inside : Members) → Sound plant → Holds plant inside → Pass (fields.fields_tests top_place inside (calendar_fields plant.large inside))
dates_ok plant inside sound holds =
    let begins = has_third plant.large inside key.Start in
    let measured = has_third plant.large inside key.Minutes in
    let both = calendar_ok top_place (beside plant.large measured key.Start) (beside plant.large begins key.Minutes) plant.calendar (held inside (since plant.large key.Start)) (held inside (since plant.large key.Minutes))
    holds.start holds.minutes refl refl sound.calendar in
    passes _ _ both.0 (passes _ _ both.1 nothing)

-- the keys at the top, by whether the plant is large
abbrev top_keys : Bool → Members → Scope → List Key
top_keys large inside scope = fields.keys_of (size_fields true large ++ (calendar_fields large inside ++ (named_fields scope ++ referring_fields scope)))

top_known : (large : Bool) (plant : Plant) (inside : Members) → (large ≡ false → plant.calendar ≡ None) → AreKnown (top_keys large inside (scope_for plant)) (plant_entries plant)
unfolding plant_entries key_word
top_known true plant inside bare = refl
top_known false plant inside bare = rw (bare refl) refl

known_ok : (plant : Plant) → NoDates plant → let inside = table_of (plant_entries plant) in fields.has_unknown (top_keys plant.large inside (scope_for plant)) inside ≡ false
known_ok plant bare = all_known (top_keys plant.large (table_of (plant_entries plant)) (scope_for plant)) (plant_entries plant) (top_known plant.large plant (table_of (plant_entries plant)) bare)

unknown_ok : (plant : Plant) → Sound plant → Pass (unknown_tests (table_of (plant_entries plant)))
unfolding unknown_tests
unknown_ok plant sound =
    let bare = no_dates plant sound in
    let inside = table_of (plant_entries plant) in
    let holds = document_holds plant bare in
    one_more _ _ [] (rw (scope_is plant inside sound holds, is_third_document plant inside holds) (known_ok plant bare)) nothing

-- the document of a plant passes all its tests, and is read as the plant
pub document_ok : (plant : Plant) → Sound plant → Pass (document_tests (table_of (plant_entries plant))) × (plant_in (table_of (plant_entries plant)) ≡ plant)
unfolding document_tests
document_ok plant sound =
    let inside = table_of (plant_entries plant) in
    let holds = document_holds plant (no_dates plant sound) in
    let sized : Pass (fields.fields_tests top_place inside (size_fields (is_second inside) (is_third inside))) = rw (is_second_document plant inside holds, is_third_document plant inside holds) (sizes_fields_ok plant inside sound holds) in
    let dated : Pass (fields.fields_tests top_place inside (calendar_fields (is_third inside) inside)) = rw (is_third_document plant inside holds) (dates_ok plant inside sound holds) in
    let named : Pass (fields.fields_tests top_place inside (named_fields (scope_in inside))) = rw (scope_is plant inside sound holds) (named_ok plant inside sound holds) in
    let lasts : Pass (lasts_tests (scope_in inside) inside) = rw (scope_is plant inside sound holds) (lasts_ok plant inside sound holds) in
    let referring : Pass (fields.fields_tests top_place inside (referring_fields (scope_in inside))) = rw (scope_is plant inside sound holds) (referring_ok plant inside sound holds) in
    let whole = plant_is plant inside sound holds in
    let counted : Pass (size_tests (plant_in inside)) = rw whole (sizes_ok plant sound) in
    (passes _ _ (unknown_ok plant sound) (passes _ _ sized (passes _ _ dated (passes _ _ named (passes _ _ lasts (passes _ _ referring counted))))), whole)

-- A plant file as a whole: its document, its tests in order, and its plant.
use Rattle.std.specs.Prelude.{◌≡◌, ℕ, ◌==◌, ◌||◌, Bool, nat_lt, if◌then◌else◌, List, [], ◌∷◌, ◌++◌, length, map, take, Option, None, is_none, is_some, option_map, unwrap_or}
use Rattle.std.specs.Str.{is_utf8}
use Rattle.toml.specs.Data.{Data, Members, no_members}
use Rattle.toml.specs.Parse.{parse_document}
use Rattle.stn_model.specs.declared.plant.Plant.{Plant}
use Rattle.stn_model.specs.declared.plant.Calendar.{Calendar}
use Rattle.stn_model.specs.declared.plant.State.{State}
use Rattle.stn_model.specs.declared.plant.Utility.{Utility}
use Rattle.stn_model.specs.declared.plant.StnUnit.{StnUnit}
use Rattle.stn_model.specs.declared.plant.Task.{Task}
use Rattle.stn_model.specs.declared.plant.Run.{Run}
use Rattle.stn_model.specs.declared.plant.Gap.{Gap}
use Rattle.stn_model.specs.declared.plant.Receipt.{Receipt}
use Rattle.stn_model.specs.declared.plant.Delivery.{Delivery}
use Rattle.stn_model.specs.declared.plant.Outage.{Outage}
use Rattle.stn_model.specs.Points.{slot_count, gap_pairs}
use Rattle.plant_text.specs.declared.fault.PlantStop.{PlantStop}
use Rattle.plant_text.specs.declared.fault.PlantStop.TheVariants as stop
use Rattle.plant_text.specs.declared.fault.Place.{Place}
use Rattle.plant_text.specs.declared.fault.TableName.TheVariants as table
use Rattle.plant_text.specs.declared.fault.KeyName.{KeyName}
use Rattle.plant_text.specs.declared.fault.KeyName.TheVariants as key
use Rattle.plant_text.specs.Tests.{Test, rows_tests, numbered_tests}
use Rattle.plant_text.specs.Fields.{fault, Field, row, needed, optional, since, beside, count, moment, tables, held, at_key, count_of, items_at, has_unknown, keys_of, fields_tests, Places}
use Rattle.plant_text.specs.Moments.{moment_of}
use Rattle.plant_text.specs.Names.{name_in, first_places}
use Rattle.plant_text.specs.Scope.{Scope}
use Rattle.plant_text.specs.Tables.{state_tests, state_of, utility_tests, utility_of, unit_tests, unit_of, last_tests, task_tests, task_of, run_tests, run_of, gap_tests, gap_of, receipt_tests, receipt_of, delivery_tests, delivery_of, outage_tests, outage_of}

-- the whole file
abbrev pub top_place : Place
top_place = record { table = table.Top; item = 0; inner = 0 }

-- the whole number at the key `version`
abbrev pub version_in : Members → ℕ
version_in document = at_key count_of 0 document (needed key.Version)

-- the file is of version 3
abbrev pub is_third : Members → Bool
is_third document = version_in document == 3

-- the file is of version 2 or 3
abbrev pub is_second : Members → Bool
is_second document = version_in document == 2 || is_third document

-- where the names of an array are declared; no more items are looked at than it may have
abbrev pub names_at : Members → KeyName → ℕ → Places
names_at document name most = first_places (map name_in (take most (items_at document (optional name))))

-- what the tables of the document are read against
unfoldable pub scope_in : Members → Scope
scope_in document = record {
  second = is_second document;
  third = is_third document;
  periods = at_key count_of 0 document (needed key.Periods);
  states = names_at document key.State (if is_third document then 160 else 40);
  utilities = names_at document key.Utility (if is_third document then 64 else 8);
  units = names_at document key.StnUnit (if is_third document then 96 else 24);
  tasks = names_at document key.Task (if is_third document then 160 else 40);
}

-- the version that a file has to be of: 3 or 2 where it is, else 1
abbrev pub version_of : Bool → Bool → ℕ
version_of second third = if third then 3 else (if second then 2 else 1)

-- the keys at the top: the version and the horizon
abbrev pub size_fields : Bool → Bool → List Field
size_fields second third =
    row (needed key.Version) (count (version_of second third) (version_of second third))
    ∷ row (needed key.Periods) (count 1 (if second then 336 else 96)) ∷ []

-- the document has a key of version 3
abbrev pub has_third : Bool → Members → KeyName → Bool
has_third third document name = is_some (held document (since third name))

-- then the calendar: when the horizon begins, and how many minutes a period takes; each needs the other
abbrev pub calendar_fields : Bool → Members → List Field
calendar_fields third document =
    row (beside third (has_third third document key.Minutes) key.Start) moment
    ∷ row (beside third (has_third third document key.Start) key.Minutes) (count 1 10080) ∷ []

-- the calendar of the document: it has one where it tells when the horizon begins
abbrev pub calendar_in : Bool → Members → Option Calendar
calendar_in third document =
    option_map (λ start. record { start = start; minutes = at_key count_of 0 document (since third key.Minutes) })
    (option_map moment_of (held document (since third key.Start)))

-- then the arrays of what has a name
abbrev pub named_fields : Scope → List Field
named_fields scope =
    row (optional key.State) (tables (if scope.third then 160 else 40) (rows_tests (λ (earlier : List State) (d : Data). state_tests scope (length earlier) d) (state_of scope) []))
    ∷ row (optional key.Utility) (tables (if scope.third then 64 else 8) (rows_tests (λ (earlier : List Utility) (d : Data). utility_tests scope (length earlier) d) (utility_of scope) []))
    ∷ row (optional key.StnUnit) (tables (if scope.third then 96 else 24) (rows_tests (λ (earlier : List StnUnit) (d : Data). unit_tests scope (length earlier) d) (unit_of scope) []))
    ∷ row (optional key.Task) (tables (if scope.third then 160 else 40) (rows_tests (λ (earlier : List Task) (d : Data). task_tests scope (length earlier) d) (task_of scope) [])) ∷ []

-- and those whose items refer to names alone
abbrev pub referring_fields : Scope → List Field
referring_fields scope =
    row (optional key.Run) (tables (if scope.third then 256 else 64) (rows_tests (λ (earlier : List Run) (d : Data). run_tests scope earlier d) (run_of scope) []))
    ∷ row (optional key.Gap) (tables 4096 (rows_tests (λ (earlier : List Gap) (d : Data). gap_tests scope (length earlier) d) (gap_of scope) []))
    ∷ row (optional key.Receipt) (tables (if scope.third then 900 else 256) (rows_tests (λ (earlier : List Receipt) (d : Data). receipt_tests scope (length earlier) d) (receipt_of scope) []))
    ∷ row (optional key.Delivery) (tables (if scope.third then 900 else 256) (rows_tests (λ (earlier : List Delivery) (d : Data). delivery_tests scope (length earlier) d) (delivery_of scope) []))
    ∷ row (since scope.second key.Outage) (tables (if scope.third then 4096 else 256) (rows_tests (λ (earlier : List Outage) (d : Data). outage_tests scope (length earlier) d) (outage_of scope) [])) ∷ []

-- between them: the task of each batch that held a unit last is declared
abbrev pub lasts_tests : Scope → Members → List Test
lasts_tests scope document = numbered_tests (last_tests scope) 0 (items_at document (optional key.StnUnit))

-- the plant with the document's states, utilities, units and tasks
abbrev pub with_named : Scope → Members → Plant → Plant
with_named scope document plant = record plant {
  states = map (state_of scope) (items_at document (optional key.State));
  utilities = map (utility_of scope) (items_at document (optional key.Utility));
  units = map (unit_of scope) (items_at document (optional key.StnUnit));
  tasks = map (task_of scope) (items_at document (optional key.Task));
}

-- the plant with the document's runs, gaps, receipts, deliveries and outages
abbrev pub with_referring : Scope → Members → Plant → Plant
with_referring scope document plant = record plant {
  runs = map (run_of scope) (items_at document (optional key.Run));
  gaps = map (gap_of scope) (items_at document (optional key.Gap));
  receipts = map (receipt_of scope) (items_at document (optional key.Receipt));
  deliveries = map (delivery_of scope) (items_at document (optional key.Delivery));
  outages = map (outage_of scope) (items_at document (since scope.second key.Outage));
}

-- the plant of a document, read against a scope
unfoldable pub plant_with : Scope → Members → Plant
plant_with scope document = record {
  large = scope.third;
  periods = scope.periods;
  calendar = calendar_in scope.third document;
  states = map (state_of scope) (items_at document (optional key.State));
  utilities = map (utility_of scope) (items_at document (optional key.Utility));
  units = map (unit_of scope) (items_at document (optional key.StnUnit));
  tasks = map (task_of scope) (items_at document (optional key.Task));
  runs = map (run_of scope) (items_at document (optional key.Run));
  gaps = map (gap_of scope) (items_at document (optional key.Gap));
  receipts = map (receipt_of scope) (items_at document (optional key.Receipt));
  deliveries = map (delivery_of scope) (items_at document (optional key.Delivery));
  outages = map (outage_of scope) (items_at document (since scope.second key.Outage));
}

-- the plant of the document, where no test holds
unfoldable pub plant_in : Members → Plant
plant_in document = plant_with (scope_in document) document

-- at the end: how many slots there are, and how many pairs of slots the gaps concern
unfoldable pub size_tests : Plant → List Test
size_tests plant =
    (nat_lt (if plant.large then 4096 else 512) (slot_count plant), fault 18 (record { table = table.Run; item = 0; inner = 0 }) key.Whole)
    ∷ (nat_lt (if plant.large then 32768 else 8192) (gap_pairs plant), fault 19 (record { table = table.Gap; item = 0; inner = 0 }) key.Whole) ∷ []

-- the tests of the keys at the top
unfoldable pub unknown_tests : Members → List Test
unknown_tests document =
    (has_unknown (keys_of (size_fields (is_second document) (is_third document) ++ (calendar_fields (is_third document) document ++ (named_fields (scope_in document) ++ referring_fields (scope_in document))))) document, fault 3 top_place key.Whole) ∷ []

-- the tests of a document, in their order
unfoldable pub document_tests : Members → List Test
document_tests document =
    unknown_tests document
    ++ (fields_tests top_place document (size_fields (is_second document) (is_third document))
    ++ (fields_tests top_place document (calendar_fields (is_third document) document)
    ++ (fields_tests top_place document (named_fields (scope_in document))
    ++ (lasts_tests (scope_in document) document
    ++ (fields_tests top_place document (referring_fields (scope_in document))
    ++ size_tests (plant_in document))))))

-- the longest plant file, in bytes, by whether it is of version 3
abbrev pub max_bytes : Bool → ℕ
max_bytes third = if third then 4194304 else 1048576

-- the document of the bytes, by the grammar of TOML
abbrev pub document_of : List ℕ → Option Members
document_of bytes = if is_utf8 bytes then parse_document bytes else None

-- the stop is want of memory, or the fault of bytes that are no document
abbrev pub IsNoDocument : List ℕ → PlantStop → Type 0
IsNoDocument bytes stop.Memory = Unit {0}
IsNoDocument bytes (stop.Fault found) = (found ≡ fault 2 top_place key.Whole) × (document_of bytes ≡ None)

-- what is at the top of the file; nothing where the bytes are no document
abbrev pub top_of : List ℕ → Members
top_of bytes = unwrap_or (document_of bytes) no_members

-- the tests of a plant file, in their order
unfoldable pub plant_tests : List ℕ → List Test
plant_tests bytes =
    (nat_lt (max_bytes (is_third (top_of bytes))) (length bytes), fault 1 top_place key.Whole)
    ∷ (is_none (document_of bytes), fault 2 top_place key.Whole)
    ∷ document_tests (top_of bytes)

-- the plant of the bytes, where no test holds
unfoldable pub plant_of : List ℕ → Plant
plant_of bytes = plant_in (top_of bytes)

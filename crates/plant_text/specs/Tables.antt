-- The field table: the keys of each table in the order of reading, and the record of an item.
use Rattle.std.specs.Prelude.{ℕ, pos, negsuc, ◌+◌, ◌-◌, Bool, true, false, not, map, ◌&&◌, ◌==◌, nat_lt, if◌then◌else◌, List, [], ◌∷◌, ◌++◌, length, Option, Some, None, is_some, is_none, option_map, replicate}
use Rattle.std.specs.List.{list_any}
use Rattle.toml.specs.Data.{Data, Members}
use Rattle.stn_model.specs.declared.plant.State.{State}
use Rattle.stn_model.specs.declared.plant.Utility.{Utility}
use Rattle.stn_model.specs.declared.plant.StnUnit.{StnUnit}
use Rattle.stn_model.specs.declared.plant.Last.{Last}
use Rattle.stn_model.specs.declared.plant.Run.{Run}
use Rattle.stn_model.specs.declared.plant.Task.{Task}
use Rattle.stn_model.specs.declared.plant.Input.{Input}
use Rattle.stn_model.specs.declared.plant.Output.{Output}
use Rattle.stn_model.specs.declared.plant.Draw.{Draw}
use Rattle.stn_model.specs.Plant.{no_task, duration_of}
use Rattle.fraction.specs.Fractions.{amount_in, is_whole, sums_to_one}
use Rattle.stn_model.specs.declared.plant.Gap.{Gap}
use Rattle.stn_model.specs.declared.plant.Receipt.{Receipt}
use Rattle.stn_model.specs.declared.plant.Delivery.{Delivery}
use Rattle.stn_model.specs.declared.plant.Outage.{Outage}
use Rattle.plant_text.specs.declared.fault.Place.{Place}
use Rattle.plant_text.specs.declared.fault.TableName.{TableName}
use Rattle.plant_text.specs.declared.fault.TableName.TheVariants as table
use Rattle.plant_text.specs.declared.scope.Owner.{Owner}
use Rattle.plant_text.specs.declared.tables.side.SidePart.{SidePart}
use Rattle.plant_text.specs.declared.fault.KeyName.{KeyName}
use Rattle.plant_text.specs.declared.fault.KeyName.TheVariants as key
use Rattle.plant_text.specs.Tests.{Test, rows_tests}
use Rattle.plant_text.specs.Fields.{fault, declares, refers, mentions, label, colour, part, count, money, time, numbers, amounts, tables, Field, row, needed, optional, since, held, at_key, text_of, count_of, integer_of, numbers_of, amounts_of, Places, place_of, part_of, whole_part, items_at, members_of, table_tests}
use Rattle.plant_text.specs.Scope.{Scope}

-- a limit for each time or period: the list that is given, or the one number so many times, or none
abbrev pub limits_in : Option ℕ → Option (List ℕ) → ℕ → List ℕ
limits_in limit (Some limits) many = limits
limits_in (Some limit) None many = replicate many limit
limits_in None None many = []

-- the item has the key
abbrev pub is_there : Members → KeyName → Bool
is_there inside name = is_some (held inside (optional name))

-- the keys of a state; its number counts from 0
unfoldable pub state_fields : Scope → ℕ → Members → List Field
state_fields scope number inside =
    row (needed key.Name) (declares scope.states number)
    ∷ row (since scope.third key.Label) label
    ∷ row (optional key.Initial) (count 0 1000000000)
    ∷ row (optional key.Limit) (count 0 1000000000)
    ∷ row (since scope.second key.Limits) (numbers (is_there inside key.Limit) (scope.periods + 1) 1000000000)
    ∷ row (optional key.Price) (money 1000000)
    ∷ row (optional key.Holding) (money 1000000) ∷ []

-- the place of a state
abbrev pub state_place : ℕ → Place
state_place number = record { table = table.State; item = number + 1; inner = 0 }

unfoldable pub state_tests : Scope → ℕ → Data → List Test
state_tests scope number d = table_tests (state_place number) (state_fields scope number (members_of d)) d

unfoldable pub state_of : Scope → Data → State
state_of scope d = let inside = members_of d in record {
  name = at_key text_of [] inside (needed key.Name);
  label = at_key text_of [] inside (since scope.third key.Label);
  initial = at_key count_of 0 inside (optional key.Initial);
  limits = limits_in (option_map count_of (held inside (optional key.Limit))) (option_map numbers_of (held inside (since scope.second key.Limits))) (scope.periods + 1);
  price = at_key integer_of (pos 0) inside (optional key.Price);
  holding = at_key integer_of (pos 0) inside (optional key.Holding);
}

-- the keys of a utility: `limit` may be absent where `limits` is there, and `rates` stands in the place of `rate`
unfoldable pub utility_fields : Scope → ℕ → Members → List Field
utility_fields scope number inside =
    row (needed key.Name) (declares scope.utilities number)
    ∷ row (since scope.third key.Label) label
    ∷ row (record { name = key.Limit; known = true; required = not (is_some (held inside (since scope.second key.Limits))) }) (count 0 1000000000)
    ∷ row (since scope.second key.Limits) (numbers (is_there inside key.Limit) scope.periods 1000000000)
    ∷ row (optional key.Rate) (money 1000000)
    ∷ row (since scope.third key.Rates) (amounts (is_there inside key.Rate) scope.periods 1000000) ∷ []

unfoldable pub utility_tests : Scope → ℕ → Data → List Test
utility_tests scope number d = table_tests (record { table = table.Utility; item = number + 1; inner = 0 }) (utility_fields scope number (members_of d)) d

unfoldable pub utility_of : Scope → Data → Utility
utility_of scope d = let inside = members_of d in record {
  name = at_key text_of [] inside (needed key.Name);
  label = at_key text_of [] inside (since scope.third key.Label);
  limits = limits_in (option_map count_of (held inside (optional key.Limit))) (option_map numbers_of (held inside (since scope.second key.Limits))) scope.periods;
  rate = at_key integer_of (pos 0) inside (optional key.Rate);
  rates = at_key amounts_of [] inside (since scope.third key.Rates);
}

-- the keys of a unit
unfoldable pub unit_fields : Scope → ℕ → Members → List Field
unit_fields scope number inside =
    row (needed key.Name) (declares scope.units number)
    ∷ row (since scope.third key.Label) label
    ∷ row (since scope.third key.Last) mentions
    ∷ row (since scope.third key.Until) (time (not (is_there inside key.Last)) (negsuc 335) (pos scope.periods)) ∷ []

-- the place of a unit
abbrev pub unit_place : ℕ → Place
unit_place number = record { table = table.StnUnit; item = number + 1; inner = 0 }

unfoldable pub unit_tests : Scope → ℕ → Data → List Test
unit_tests scope number d = table_tests (unit_place number) (unit_fields scope number (members_of d)) d

-- the batch that held a unit last: its task's name stands at `last`, and its end at `until`, or is 0
abbrev pub last_in : Scope → Members → Option Last
last_in scope inside =
    option_map (λ task. record { task = task; until = at_key integer_of (pos 0) inside (since scope.third key.Until) })
    (option_map (place_of scope.tasks) (held inside (since scope.third key.Last)))

unfoldable pub unit_of : Scope → Data → StnUnit
unit_of scope d = let inside = members_of d in record {
  name = at_key text_of [] inside (needed key.Name);
  label = at_key text_of [] inside (since scope.third key.Label);
  last = last_in scope inside;
}

-- a name that is there and is not declared
abbrev pub is_stray : Places → Option Data → Bool
is_stray places None = false
is_stray places (Some d) = is_none (places (text_of d))

-- after all tasks: the task of the batch that held a unit last is declared
unfoldable pub last_tests : Scope → ℕ → Data → List Test
last_tests scope number d =
    (is_stray scope.tasks (held (members_of d) (since scope.third key.Last)), fault 10 (unit_place number) key.Last) ∷ []

-- the keys of a run
unfoldable pub run_fields : Scope → List Field
run_fields scope =
    row (needed key.Task) (refers scope.tasks)
    ∷ row (needed key.StnUnit) (refers scope.units)
    ∷ row (needed key.Min) (count 1 255)
    ∷ row (needed key.Max) (count 1 255)
    ∷ row (optional key.Cost) (money 1000000) ∷ []

unfoldable pub run_of : Scope → Data → Run
run_of scope d = let inside = members_of d in record {
  task = at_key (place_of scope.tasks) 0 inside (needed key.Task);
  unit = at_key (place_of scope.units) 0 inside (needed key.StnUnit);
  min = at_key count_of 0 inside (needed key.Min);
  max = at_key count_of 0 inside (needed key.Max);
  cost = at_key integer_of (pos 0) inside (optional key.Cost);
}

abbrev pub run_place : ℕ → Place
run_place number = record { table = table.Run; item = number + 1; inner = 0 }

-- an earlier run has the task and the unit
abbrev pub has_run : List Run → Run → Bool
has_run earlier run = list_any (λ other. other.task == run.task && other.unit == run.unit) earlier

-- after its keys: the least batch is at most the greatest, and no earlier run has the task and the unit
unfoldable pub run_more_tests : List Run → Run → List Test
run_more_tests earlier run =
    (nat_lt run.max run.min, fault 15 (run_place (length earlier)) key.Max)
    ∷ (has_run earlier run, fault 16 (run_place (length earlier)) key.Whole) ∷ []

unfoldable pub run_tests : Scope → List Run → Data → List Test
run_tests scope earlier d = table_tests (run_place (length earlier)) (run_fields scope) d ++ run_more_tests earlier (run_of scope d)

-- the keys of a gap
unfoldable pub gap_fields : Scope → List Field
gap_fields scope =
    row (needed key.StnUnit) (refers scope.units)
    ∷ row (needed key.From) (refers scope.tasks)
    ∷ row (needed key.To) (refers scope.tasks)
    ∷ row (needed key.Periods) (count (if scope.second then 0 else 1) (if scope.third then 336 else 96))
    ∷ row (since scope.second key.Cost) (count 0 1000000) ∷ []

unfoldable pub gap_tests : Scope → ℕ → Data → List Test
gap_tests scope number d = table_tests (record { table = table.Gap; item = number + 1; inner = 0 }) (gap_fields scope) d

unfoldable pub gap_of : Scope → Data → Gap
gap_of scope d = let inside = members_of d in record {
  unit = at_key (place_of scope.units) 0 inside (needed key.StnUnit);
  from = at_key (place_of scope.tasks) 0 inside (needed key.From);
  to = at_key (place_of scope.tasks) 0 inside (needed key.To);
  periods = at_key count_of 0 inside (needed key.Periods);
  cost = at_key count_of 0 inside (since scope.second key.Cost);
}

-- the keys of a receipt
unfoldable pub receipt_fields : Scope → List Field
receipt_fields scope =
    row (needed key.State) (refers scope.states)
    ∷ row (needed key.Time) (count 0 scope.periods)
    ∷ row (needed key.Amount) (count 1 1000000000) ∷ []

unfoldable pub receipt_tests : Scope → ℕ → Data → List Test
receipt_tests scope number d = table_tests (record { table = table.Receipt; item = number + 1; inner = 0 }) (receipt_fields scope) d

unfoldable pub receipt_of : Scope → Data → Receipt
receipt_of scope d = let inside = members_of d in record {
  state = at_key (place_of scope.states) 0 inside (needed key.State);
  time = at_key count_of 0 inside (needed key.Time);
  amount = at_key count_of 0 inside (needed key.Amount);
}

-- the keys of a delivery
unfoldable pub delivery_fields : Scope → List Field
delivery_fields scope =
    row (needed key.State) (refers scope.states)
    ∷ row (needed key.Time) (count 0 scope.periods)
    ∷ row (needed key.Amount) (count 1 1000000000)
    ∷ row (optional key.Payment) (money 1000000000) ∷ []

unfoldable pub delivery_tests : Scope → ℕ → Data → List Test
delivery_tests scope number d = table_tests (record { table = table.Delivery; item = number + 1; inner = 0 }) (delivery_fields scope) d

unfoldable pub delivery_of : Scope → Data → Delivery
delivery_of scope d = let inside = members_of d in record {
  state = at_key (place_of scope.states) 0 inside (needed key.State);
  time = at_key count_of 0 inside (needed key.Time);
  amount = at_key count_of 0 inside (needed key.Amount);
  payment = at_key integer_of (pos 0) inside (optional key.Payment);
}

-- the keys of an outage
unfoldable pub outage_fields : Scope → List Field
outage_fields scope =
    row (needed key.StnUnit) (refers scope.units)
    ∷ row (needed key.From) (count 0 (scope.periods - 1))
    ∷ row (needed key.To) (count 1 scope.periods) ∷ []

unfoldable pub outage_of : Scope → Data → Outage
outage_of scope d = let inside = members_of d in record {
  unit = at_key (place_of scope.units) 0 inside (needed key.StnUnit);
  from = at_key count_of 0 inside (needed key.From);
  to = at_key count_of 0 inside (needed key.To);
}

abbrev pub outage_place : ℕ → Place
outage_place number = record { table = table.Outage; item = number + 1; inner = 0 }

-- after its keys: an outage begins before it ends
unfoldable pub outage_more_tests : ℕ → Outage → List Test
outage_more_tests number outage = (not (nat_lt outage.from outage.to), fault 22 (outage_place number) key.To) ∷ []

unfoldable pub outage_tests : Scope → ℕ → Data → List Test
outage_tests scope number d = table_tests (outage_place number) (outage_fields scope) d ++ outage_more_tests number (outage_of scope d)

-- a side of a task is of the table of outputs
abbrev pub is_output : TableName → Bool
is_output table.Output = true
is_output _ = false

-- the keys of an input or an output: the delay is of outputs alone
unfoldable pub side_fields : Scope → Bool → List Field
side_fields scope output =
    row (needed key.State) (refers scope.states)
    ∷ row (needed key.Part) part
    ∷ row (record { name = key.Delay; known = output; required = output }) (count 1 96) ∷ []

unfoldable pub side_tests : Scope → Owner → ℕ → Data → List Test
side_tests scope owner number d = table_tests (record { table = owner.table; item = owner.item; inner = number + 1 }) (side_fields scope (is_output owner.table)) d

unfoldable pub side_of : Scope → Bool → Data → SidePart
side_of scope output d = let inside = members_of d in record {
  state = at_key (place_of scope.states) 0 inside (needed key.State);
  part = at_key part_of whole_part inside (needed key.Part);
  delay = at_key count_of 0 inside (record { name = key.Delay; known = output; required = output });
}

-- what a side gives, with its amount for each quantum
abbrev pub output_of : ℕ → SidePart → Output
output_of quantum side = record { state = side.state; amount = amount_in quantum side.part; delay = side.delay }

abbrev pub input_of : Output → Input
input_of output = record { state = output.state; amount = output.amount }

-- the amount of an item of a side is whole
abbrev pub whole_tests : Owner → ℕ → List Output → SidePart → List Test
whole_tests owner quantum earlier side =
    (not (is_whole quantum side.part), fault 13 (record { table = owner.table; item = owner.item; inner = length earlier + 1 }) key.Part) ∷ []

-- after the items of a side: their parts sum to one, and their amounts are whole
unfoldable pub share_tests : Owner → ℕ → List SidePart → List Test
share_tests owner quantum sides =
    (not (sums_to_one (map (λ side. side.part) sides)), fault 12 (record { table = owner.table; item = owner.item; inner = 0 }) key.Whole)
    ∷ rows_tests (whole_tests owner quantum) (output_of quantum) [] sides

-- the tests of the items of a side
abbrev pub sides_tests : Scope → Owner → ℕ → List Data → List Test
sides_tests scope owner quantum ds =
    rows_tests (λ (earlier : List SidePart) (d : Data). side_tests scope owner (length earlier) d) (side_of scope (is_output owner.table)) [] ds
    ++ share_tests owner quantum (map (side_of scope (is_output owner.table)) ds)

-- what the items of a side give
abbrev pub outputs_in : Scope → Bool → ℕ → List Data → List Output
outputs_in scope output quantum ds = map (output_of quantum) (map (side_of scope output) ds)

-- the keys of a draw: as many numbers as the task takes periods
unfoldable pub draw_fields : Scope → ℕ → List Field
draw_fields scope duration =
    row (needed key.Utility) (refers scope.utilities)
    ∷ row (needed key.Fixed) (numbers false duration 1000000)
    ∷ row (needed key.Each) (numbers false duration 1000000) ∷ []

unfoldable pub draw_tests : Scope → Owner → ℕ → Data → List Test
draw_tests scope owner number d = table_tests (record { table = owner.table; item = owner.item; inner = number + 1 }) (draw_fields scope owner.duration) d

unfoldable pub draw_of : Scope → Data → Draw
draw_of scope d = let inside = members_of d in record {
  utility = at_key (place_of scope.utilities) 0 inside (needed key.Utility);
  fixed = at_key numbers_of [] inside (needed key.Fixed);
  each = at_key numbers_of [] inside (needed key.Each);
}

-- the owner of an inner table of a task
abbrev pub owner_in : TableName → ℕ → ℕ → Owner
owner_in table number duration = record { table = table; item = number + 1; duration = duration }

-- the quantum of a task
abbrev pub quantum_in : Members → ℕ
quantum_in inside = at_key count_of 0 inside (needed key.Quantum)

-- what a task gives
unfoldable pub outputs_of : Scope → Members → List Output
outputs_of scope inside = outputs_in scope true (quantum_in inside) (items_at inside (needed key.Output))

-- how many periods a task with these outputs takes
abbrev pub duration_with : List Output → ℕ
duration_with outputs = duration_of (record no_task { outputs = outputs })

-- the owner of the draws of a task, with its duration
abbrev pub drawer_in : Scope → ℕ → Members → Owner
drawer_in scope number inside = owner_in table.Draw number (duration_with (outputs_of scope inside))

-- the keys of a task
unfoldable pub task_fields : Scope → ℕ → Members → List Field
task_fields scope number inside =
    row (needed key.Name) (declares scope.tasks number)
    ∷ row (since scope.third key.Label) label
    ∷ row (since scope.third key.Colour) colour
    ∷ row (needed key.Quantum) (count 1 1000000)
    ∷ row (needed key.Input) (tables 8 (sides_tests scope (owner_in table.Input number 0) (quantum_in inside)))
    ∷ row (needed key.Output) (tables 8 (sides_tests scope (owner_in table.Output number 0) (quantum_in inside)))
    ∷ row (optional key.Draw) (tables 8 (rows_tests (λ (earlier : List Draw) (d : Data). draw_tests scope (drawer_in scope number inside) (length earlier) d) (draw_of scope) [])) ∷ []

unfoldable pub task_tests : Scope → ℕ → Data → List Test
task_tests scope number d = table_tests (record { table = table.Task; item = number + 1; inner = 0 }) (task_fields scope number (members_of d)) d

unfoldable pub task_of : Scope → Data → Task
task_of scope d = let inside = members_of d in record {
  name = at_key text_of [] inside (needed key.Name);
  label = at_key text_of [] inside (since scope.third key.Label);
  colour = at_key text_of [] inside (since scope.third key.Colour);
  quantum = quantum_in inside;
  inputs = map input_of (outputs_in scope false (quantum_in inside) (items_at inside (needed key.Input)));
  outputs = outputs_of scope inside;
  draws = map (draw_of scope) (items_at inside (optional key.Draw));
}

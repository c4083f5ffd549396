-- What the records of a plant are printed as: the keys of each table, in the order of the field table.
use Rattle.std.specs.Prelude.{ℕ, pos, ◌==◌, if◌then◌else◌, List, [], ◌∷◌, length, map, Option, Some, None, option_map}
use Rattle.std.specs.Ordering.{int_eq}
use Rattle.toml_datetime.specs.declared.datetime.Datetime.{Datetime}
use Rattle.toml.specs.Data.{Data, string, integer, datetime, table}
use Rattle.stn_model.specs.declared.plant.Plant.{Plant}
use Rattle.stn_model.specs.declared.plant.Calendar.{Calendar}
use Rattle.stn_model.specs.declared.plant.Moment.{Moment}
use Rattle.stn_model.specs.declared.plant.State.{State}
use Rattle.stn_model.specs.declared.plant.Utility.{Utility}
use Rattle.stn_model.specs.declared.plant.StnUnit.{StnUnit}
use Rattle.stn_model.specs.declared.plant.Last.{Last}
use Rattle.stn_model.specs.declared.plant.Task.{Task}
use Rattle.stn_model.specs.declared.plant.Input.{Input}
use Rattle.stn_model.specs.declared.plant.Output.{Output}
use Rattle.stn_model.specs.declared.plant.Draw.{Draw}
use Rattle.stn_model.specs.declared.plant.Run.{Run}
use Rattle.stn_model.specs.declared.plant.Gap.{Gap}
use Rattle.stn_model.specs.declared.plant.Receipt.{Receipt}
use Rattle.stn_model.specs.declared.plant.Delivery.{Delivery}
use Rattle.stn_model.specs.declared.plant.Outage.{Outage}
use Rattle.stn_model.specs.Plant.{state_at, utility_at, task_at, unit_at}
use Rattle.fraction.specs.Fractions.{fraction_text}
use Rattle.plant_text.specs.declared.fault.KeyName.TheVariants as key
use Rattle.plant_make.specs.Entries.{Entry, table_of, number, numbers, some_text, some_items, some_amounts}
use Rattle.plant_make.specs.Numbers.{lone, several, part_of}

-- the table of some entries as a value
abbrev pub made_of : List Entry → Data
made_of entries = table (table_of entries)

-- names of the things that a record names by number
abbrev pub state_name : Plant → ℕ → Data
state_name plant state = string (state_at plant state).name

abbrev pub utility_name : Plant → ℕ → Data
utility_name plant utility = string (utility_at plant utility).name

abbrev pub unit_name : Plant → ℕ → Data
unit_name plant unit = string (unit_at plant unit).name

abbrev pub task_name : Plant → ℕ → Data
task_name plant task = string (task_at plant task).name

unfoldable pub state_entries : State → List Entry
state_entries state =
    (key.Name, Some (string state.name))
    ∷ (key.Label, some_text state.label)
    ∷ (key.Initial, Some (number state.initial))
    ∷ (key.Limit, option_map number (lone state.limits))
    ∷ (key.Limits, option_map numbers (several state.limits))
    ∷ (key.Price, Some (integer state.price))
    ∷ (key.Holding, Some (integer state.holding)) ∷ []

-- the one rate of a utility, where it has no rates by period
abbrev pub lone_rate : Utility → Option Data
lone_rate utility = if length utility.rates == 0 then Some (integer utility.rate) else None

unfoldable pub utility_entries : Utility → List Entry
utility_entries utility =
    (key.Name, Some (string utility.name))
    ∷ (key.Label, some_text utility.label)
    ∷ (key.Limit, option_map number (lone utility.limits))
    ∷ (key.Limits, option_map numbers (several utility.limits))
    ∷ (key.Rate, lone_rate utility)
    ∷ (key.Rates, some_amounts utility.rates) ∷ []

-- the task of the batch that held a unit last
abbrev pub last_name : Plant → Option Last → Option Data
last_name plant last = option_map (λ batch. task_name plant batch.task) last

-- the time at which it ends, left out where it is 0
abbrev pub until_of : Option Last → Option Data
until_of None = None
until_of (Some last) = if int_eq last.until (pos 0) then None else Some (integer last.until)

unfoldable pub unit_entries : Plant → StnUnit → List Entry
unit_entries plant unit =
    (key.Name, Some (string unit.name))
    ∷ (key.Label, some_text unit.label)
    ∷ (key.Last, last_name plant unit.last)
    ∷ (key.Until, until_of unit.last) ∷ []

unfoldable pub run_entries : Plant → Run → List Entry
run_entries plant run =
    (key.Task, Some (task_name plant run.task))
    ∷ (key.StnUnit, Some (unit_name plant run.unit))
    ∷ (key.Min, Some (number run.min))
    ∷ (key.Max, Some (number run.max))
    ∷ (key.Cost, Some (integer run.cost)) ∷ []

unfoldable pub gap_entries : Plant → Gap → List Entry
gap_entries plant gap =
    (key.StnUnit, Some (unit_name plant gap.unit))
    ∷ (key.From, Some (task_name plant gap.from))
    ∷ (key.To, Some (task_name plant gap.to))
    ∷ (key.Periods, Some (number gap.periods))
    ∷ (key.Cost, Some (number gap.cost)) ∷ []

unfoldable pub receipt_entries : Plant → Receipt → List Entry
receipt_entries plant receipt =
    (key.State, Some (state_name plant receipt.state))
    ∷ (key.Time, Some (number receipt.time))
    ∷ (key.Amount, Some (number receipt.amount)) ∷ []

unfoldable pub delivery_entries : Plant → Delivery → List Entry
delivery_entries plant delivery =
    (key.State, Some (state_name plant delivery.state))
    ∷ (key.Time, Some (number delivery.time))
    ∷ (key.Amount, Some (number delivery.amount))
    ∷ (key.Payment, Some (integer delivery.payment)) ∷ []

unfoldable pub outage_entries : Plant → Outage → List Entry
outage_entries plant outage =
    (key.StnUnit, Some (unit_name plant outage.unit))
    ∷ (key.From, Some (number outage.from))
    ∷ (key.To, Some (number outage.to)) ∷ []

-- the text of the part that an amount is of the quantum
abbrev pub part_text : ℕ → ℕ → Data
part_text quantum amount = string (fraction_text (part_of quantum amount))

unfoldable pub input_entries : Plant → ℕ → Input → List Entry
input_entries plant quantum input =
    (key.State, Some (state_name plant input.state))
    ∷ (key.Part, Some (part_text quantum input.amount)) ∷ []

unfoldable pub output_entries : Plant → ℕ → Output → List Entry
output_entries plant quantum output =
    (key.State, Some (state_name plant output.state))
    ∷ (key.Part, Some (part_text quantum output.amount))
    ∷ (key.Delay, Some (number output.delay)) ∷ []

unfoldable pub draw_entries : Plant → Draw → List Entry
draw_entries plant draw =
    (key.Utility, Some (utility_name plant draw.utility))
    ∷ (key.Fixed, Some (numbers draw.fixed))
    ∷ (key.Each, Some (numbers draw.each)) ∷ []

unfoldable pub task_entries : Plant → Task → List Entry
task_entries plant task =
    (key.Name, Some (string task.name))
    ∷ (key.Label, some_text task.label)
    ∷ (key.Colour, some_text task.colour)
    ∷ (key.Quantum, Some (number task.quantum))
    ∷ (key.Input, some_items (map (λ input. made_of (input_entries plant task.quantum input)) task.inputs))
    ∷ (key.Output, some_items (map (λ output. made_of (output_entries plant task.quantum output)) task.outputs))
    ∷ (key.Draw, some_items (map (λ draw. made_of (draw_entries plant draw)) task.draws)) ∷ []

-- a moment as a local date-time of whole seconds
abbrev pub date_time : Moment → Datetime
date_time moment = record {
  date = Some (record { year = moment.year; month = moment.month; day = moment.day });
  time = Some (record { hour = moment.hour; minute = moment.minute; second = Some moment.second; nanosecond = None });
  offset = None;
}

-- when the calendar begins, and the minutes of its periods; nothing without a calendar
abbrev pub start_of : Option Calendar → Option Data
start_of calendar = option_map (λ c. datetime (date_time c.start)) calendar

abbrev pub minutes_of : Option Calendar → Option Data
minutes_of calendar = option_map (λ c. number c.minutes) calendar

-- the keys at the top
unfoldable pub plant_entries : Plant → List Entry
plant_entries plant =
    (key.Version, Some (number (if plant.large then 3 else 2)))
    ∷ (key.Periods, Some (number plant.periods))
    ∷ (key.Start, start_of plant.calendar)
    ∷ (key.Minutes, minutes_of plant.calendar)
    ∷ (key.State, some_items (map (λ state. made_of (state_entries state)) plant.states))
    ∷ (key.Utility, some_items (map (λ utility. made_of (utility_entries utility)) plant.utilities))
    ∷ (key.StnUnit, some_items (map (λ unit. made_of (unit_entries plant unit)) plant.units))
    ∷ (key.Task, some_items (map (λ task. made_of (task_entries plant task)) plant.tasks))
    ∷ (key.Run, some_items (map (λ run. made_of (run_entries plant run)) plant.runs))
    ∷ (key.Gap, some_items (map (λ gap. made_of (gap_entries plant gap)) plant.gaps))
    ∷ (key.Receipt, some_items (map (λ receipt. made_of (receipt_entries plant receipt)) plant.receipts))
    ∷ (key.Delivery, some_items (map (λ delivery. made_of (delivery_entries plant delivery)) plant.deliveries))
    ∷ (key.Outage, some_items (map (λ outage. made_of (outage_entries plant outage)) plant.outages)) ∷ []

-- What the records of a plant say of its runs, durations, gaps and outages.
use Rattle.std.specs.Prelude.{ℕ, ℤ, pos, negsuc, ◌+◌, ◌+ℤ◌, ◌==◌, ◌&&◌, ◌||◌, not, nat_le, Bool, List, [], Option, Some, None, find, map, position, if◌then◌else◌, slice_index_or}
use Rattle.std.specs.List.{list_all}
use Rattle.stn_model.specs.declared.plant.Plant.{Plant}
use Rattle.stn_model.specs.declared.plant.State.{State}
use Rattle.stn_model.specs.declared.plant.Utility.{Utility}
use Rattle.stn_model.specs.declared.plant.StnUnit.{StnUnit}
use Rattle.stn_model.specs.declared.plant.Last.{Last}
use Rattle.stn_model.specs.declared.plant.Task.{Task}
use Rattle.stn_model.specs.declared.plant.Run.{Run}
use Rattle.stn_model.specs.declared.plant.Gap.{Gap}
use Rattle.stn_model.specs.declared.plant.Outage.{Outage}
use Rattle.stn_model.specs.declared.start.Start.{Start}
use Rattle.stn_model.specs.Sums.{greatest_by}

-- a task that takes and gives nothing, in the place of one that is not there
abbrev pub no_task : Task
no_task = record { name = []; label = []; colour = []; quantum = 0; inputs = []; outputs = []; draws = [] }

-- a state without stock or limit, in the place of one that is not there
abbrev pub no_state : State
no_state = record { name = []; label = []; initial = 0; limits = []; price = pos 0; holding = pos 0 }

-- a utility of which nothing is there, in the place of one that is not there
abbrev pub no_utility : Utility
no_utility = record { name = []; label = []; limits = []; rate = pos 0; rates = [] }

-- a unit without a name, in the place of one that is not there
abbrev pub no_unit : StnUnit
no_unit = record { name = []; label = []; last = None }

-- a run of nothing, in the place of one that is not there
abbrev pub no_run : Run
no_run = record { task = 0; unit = 0; min = 0; max = 0; cost = pos 0 }

-- the task of this number
abbrev pub task_at : Plant → ℕ → Task
task_at plant task = slice_index_or plant.tasks task no_task

-- the state of this number
abbrev pub state_at : Plant → ℕ → State
state_at plant state = slice_index_or plant.states state no_state

-- the utility of this number
abbrev pub utility_at : Plant → ℕ → Utility
utility_at plant utility = slice_index_or plant.utilities utility no_utility

-- what one unit of the utility costs in a period: the rate that is listed for it, or the one rate where none is
unfoldable pub rate_in : Utility → ℕ → ℤ
rate_in utility period = slice_index_or utility.rates period utility.rate

-- the unit of this number
abbrev pub unit_at : Plant → ℕ → StnUnit
unit_at plant unit = slice_index_or plant.units unit no_unit

-- the run of this number
abbrev pub run_at : Plant → ℕ → Run
run_at plant run = slice_index_or plant.runs run no_run

-- the names of the units, in their order
abbrev pub unit_names : Plant → List (List ℕ)
unit_names plant = map (λ unit. unit.name) plant.units

-- the names of the tasks, in their order
abbrev pub task_names : Plant → List (List ℕ)
task_names plant = map (λ task. task.name) plant.tasks

-- how many periods a batch of the task takes: the greatest delay of its outputs
unfoldable pub duration_of : Task → ℕ
duration_of task = greatest_by (λ output. output.delay) task.outputs

-- the run is of this task and unit
abbrev pub is_of : ℕ → ℕ → Run → Bool
is_of task unit run = run.task == task && run.unit == unit

-- the number of the run of a task on a unit, if there is one
unfoldable pub run_number : Plant → ℕ → ℕ → Option ℕ
run_number plant task unit = position (is_of task unit) plant.runs

-- the run of a task on a unit, if there is one
unfoldable pub run_on : Plant → ℕ → ℕ → Option Run
run_on plant task unit = find (is_of task unit) plant.runs

-- the gap is listed for this unit, from a batch of the one task to a batch of the other
abbrev pub is_between : ℕ → ℕ → ℕ → Gap → Bool
is_between unit from to gap = gap.unit == unit && gap.from == from && gap.to == to

-- how many periods the unit is cleaned between the tasks: the most that are listed for them
unfoldable pub gap_between : Plant → ℕ → ℕ → ℕ → ℕ
gap_between plant unit from to = greatest_by (λ gap. if is_between unit from to gap then gap.periods else 0) plant.gaps

-- what the changeover of the unit between the tasks costs: the most that is listed for them
unfoldable pub cost_between : Plant → ℕ → ℕ → ℕ → ℕ
cost_between plant unit from to = greatest_by (λ gap. if is_between unit from to gap then gap.cost else 0) plant.gaps

-- a time counted from the begin, and 0 for one before it
abbrev pub from_begin : ℤ → ℕ
from_begin (pos n) = n
from_begin (negsuc n) = 0

-- the time until which this batch goes on, which held a unit last; 0 where none held it
abbrev pub until_of : Option Last → ℕ
until_of None = 0
until_of (Some last) = from_begin last.until

-- the time until which the batch goes on that held the unit last; 0 where none held it, or where it was over before
unfoldable pub held_until : Plant → ℕ → ℕ
held_until plant unit = until_of (unit_at plant unit).last

-- the first time at which a batch of the task may begin that follows this one, which held the unit last; 0 where none held it
abbrev pub ready_after : Plant → ℕ → ℕ → Option Last → ℕ
ready_after plant unit task None = 0
ready_after plant unit task (Some last) = from_begin (last.until +ℤ pos (gap_between plant unit last.task task))

-- the first time at which a first batch of the task may begin on the unit: after the batch that held it last, and the cleaning
unfoldable pub ready_at : Plant → ℕ → ℕ → ℕ
ready_at plant unit task = ready_after plant unit task (unit_at plant unit).last

-- what a changeover to the task costs from the batch that held the unit last; 0 where none held it
abbrev pub cost_after : Plant → ℕ → ℕ → Option Last → ℕ
cost_after plant unit task None = 0
cost_after plant unit task (Some last) = cost_between plant unit last.task task

-- what the changeover to a first batch of the task costs on the unit
unfoldable pub first_cost : Plant → ℕ → ℕ → ℕ
first_cost plant unit task = cost_after plant unit task (unit_at plant unit).last

-- the outage is of another unit, begins at the later time or after it, or is over by the earlier one
abbrev pub is_clear_of : ℕ → ℕ → ℕ → Outage → Bool
is_clear_of unit from to outage = not (outage.unit == unit) || nat_le to outage.from || nat_le outage.to from

-- the unit is in use from one time to another: no outage of it overlaps them
unfoldable pub is_in_use : Plant → ℕ → ℕ → ℕ → Bool
is_in_use plant unit from to = list_all (is_clear_of unit from to) plant.outages

-- the time at which the batch ends
unfoldable pub end_of : Plant → Start → ℕ
end_of plant start = start.period + duration_of (task_at plant start.task)

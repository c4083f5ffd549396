-- The table of the batches: a line for each start of a plan, by units and periods.
use Rattle.std.specs.Prelude.{ℕ, ℤ, ◌+◌, ◌*◌, ◌==◌, Bool, Option, Some, None, List, [], ◌++◌, length, filter, flat_map, sum_by, codes, decimal}
use Rattle.std.specs.List.{range_with_len}
use Rattle.std.specs.List.Sorted.{IsPermutation}
use Rattle.std.specs.Fmt.{signed_decimal}
use Rattle.stn_model.specs.declared.plant.Plant.{Plant}
use Rattle.stn_model.specs.declared.plant.Calendar.{Calendar}
use Rattle.stn_model.specs.declared.start.Start.{Start}
use Rattle.stn_model.specs.Plant.{task_at, unit_at, run_on, end_of}
use Rattle.stn_model.specs.Profit.{cost_of, changeover, first_change}
use Rattle.plant_labels.specs.Clock.{moment_at, moment_text}

-- the batch is on this unit
abbrev pub is_on : ℕ → Start → Bool
is_on unit start = start.unit == unit

-- the batches of a unit, as they stand in the plan
abbrev pub on_unit : List Start → ℕ → List Start
on_unit plan unit = filter (is_on unit) plan

-- the batches that start in a period
abbrev pub starting : List Start → ℕ → List Start
starting batches period = filter (λ start. start.period == period) batches

-- batches one period after another
unfoldable pub by_period : ℕ → List Start → List Start
by_period periods batches = flat_map (starting batches) (range_with_len 0 periods)

-- the batches of a unit, one period after another
abbrev pub unit_order : Plant → List Start → ℕ → List Start
unit_order plant plan unit = by_period plant.periods (on_unit plan unit)

-- all batches, one unit after another
abbrev pub in_order : Plant → List Start → List Start
in_order plant plan = flat_map (unit_order plant plan) (range_with_len 0 (length plant.units))

-- what is charged for the changeover to a batch from the batches of its unit that it is a next one of
abbrev pub charge_between : Plant → List Start → Start → ℕ
charge_between plant batches b = sum_by (λ a. changeover plant batches a b) batches

-- what is charged for the changeover to a batch: that from the batch before it, or from the one that held its unit last
unfoldable pub charge : Plant → List Start → Start → ℕ
charge plant batches b = charge_between plant batches b + first_change plant batches b

-- the mass of a batch: its quanta times its task's quantum
abbrev pub mass_of : Plant → Start → ℕ
mass_of plant start = start.quanta * (task_at plant start.task).quantum

-- what a batch costs: the cost of its run
abbrev pub batch_cost : Plant → Start → ℤ
batch_cost plant start = cost_of (run_on plant start.task start.unit)

-- when a batch runs and how large it is, after the names of its unit and its task
unfoldable pub size_cells : ℕ → ℕ → ℕ → ℕ → List ℕ
size_cells start end quanta mass = codes "," ++ (decimal start ++ (codes "," ++ (decimal end ++ (codes "," ++ (decimal quanta ++ (codes "," ++ decimal mass))))))

-- what a batch costs, and what is charged on it
unfoldable pub cost_cells : ℤ → ℕ → List ℕ
cost_cells cost charged = codes "," ++ (signed_decimal cost ++ (codes "," ++ decimal charged))

-- the moment at a time
abbrev pub clock_cell : Calendar → ℕ → List ℕ
clock_cell calendar time = codes "," ++ moment_text (moment_at calendar time)

-- the moments at which a batch begins and ends, where the plant has a calendar
abbrev pub clock_cells : Option Calendar → ℕ → ℕ → List ℕ
clock_cells None start end = []
clock_cells (Some calendar) start end = clock_cell calendar start ++ clock_cell calendar end

-- the numbers of a batch on which so much is charged
unfoldable pub batch_numbers : Plant → Start → ℕ → List ℕ
batch_numbers plant b charged = size_cells b.period (end_of plant b) b.quanta (mass_of plant b) ++ cost_cells (batch_cost plant b) charged

-- the line of a batch after the names of its unit and its task: its numbers, and its moments
unfoldable pub batch_cells : Plant → Start → ℕ → List ℕ
batch_cells plant b charged = batch_numbers plant b charged ++ (clock_cells plant.calendar b.period (end_of plant b) ++ codes "\n")

-- the line of a batch, among the batches of its unit
unfoldable pub line_among : Plant → List Start → Start → List ℕ
line_among plant batches b =
    (unit_at plant b.unit).name ++ (codes "," ++ ((task_at plant b.task).name
    ++ batch_cells plant b (charge plant batches b)))

-- the line of a batch
abbrev pub batch_line : Plant → List Start → Start → List ℕ
batch_line plant plan b = line_among plant (on_unit plan b.unit) b

-- the lines of all batches
abbrev pub batch_lines : Plant → List Start → List ℕ
batch_lines plant plan = flat_map (batch_line plant plan) (in_order plant plan)

-- the names of the columns that each plant has
unfoldable pub batch_columns : List ℕ
batch_columns = codes "unit,task,start,end,quanta,mass,cost,changeover"

-- the names of the columns of the moments, where the plant has a calendar
abbrev pub clock_columns : Option Calendar → List ℕ
clock_columns None = []
clock_columns (Some calendar) = codes ",from,to"

-- the head line of the batches
unfoldable pub batches_head : Plant → List ℕ
batches_head plant = batch_columns ++ (clock_columns plant.calendar ++ codes "\n")

-- the table of the batches
abbrev pub batches_text : Plant → List Start → List ℕ
batches_text plant plan = batches_head plant ++ batch_lines plant plan

-- each batch of the plan has one line, and there is no other line
abbrev pub EachOnce : Plant → List Start → Type 0
EachOnce plant plan = IsPermutation plan (in_order plant plan)

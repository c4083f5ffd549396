-- The report of a plan: who runs when, what is in stock, what is drawn, and the profit.
use Rattle.std.specs.Prelude.{ℕ, ◌+◌, ℤ, pos, Bool, ◌&&◌, ◌==◌, nat_lt, length, List, [], ◌∷◌, ◌++◌, Option, Some, None, map, find, codes, slice_index_or, flat_map}
use Rattle.std.specs.List.{range_with_len}
use Rattle.std.specs.Fmt.{signed_decimal}
use Rattle.stn_model.specs.declared.plant.Plant.{Plant}
use Rattle.stn_model.specs.declared.start.Start.{Start}
use Rattle.stn_model.specs.Plant.{end_of, unit_names, task_names}
use Rattle.stn_model.specs.Stock.{stock}
use Rattle.stn_model.specs.Load.{load}
use Rattle.stn_model.specs.Profit.{profit}
use Rattle.gantt_report.specs.Layout.{left_in, two_digits, name_lines, figures_lines}

-- a batch begins on the unit in the period
abbrev pub begins : ℕ → ℕ → Start → Bool
begins unit period start = start.unit == unit && start.period == period

-- a batch on the unit began before the period and has not ended by it
abbrev pub goes_on : Plant → ℕ → ℕ → Start → Bool
goes_on plant unit period start = start.unit == unit && nat_lt start.period period && nat_lt period (end_of plant start)

-- a cell of a batch: a byte, and the number of its task, counted from 1
unfoldable pub batch_cell : ℕ → Start → List ℕ
batch_cell byte start = byte ∷ two_digits (start.task + 1)

-- A cell shows the batch that begins ('|', 124), else the one that goes on (a blank, 32), else that
-- the unit runs none of the plan.
abbrev pub cell_of : Option Start → Option Start → List ℕ
cell_of (Some first) later = batch_cell 124 first
cell_of None (Some later) = batch_cell 32 later
cell_of None None = codes " .."

-- the cell of a unit and a period
unfoldable pub cell : Plant → List Start → ℕ → ℕ → List ℕ
cell plant plan unit period = cell_of (find (begins unit period) plan) (find (goes_on plant unit period) plan)

-- the names of the states, in their order
abbrev pub state_names : Plant → List (List ℕ)
state_names plant = map (λ state. state.name) plant.states

-- the names of the utilities, in their order
abbrev pub utility_names : Plant → List (List ℕ)
utility_names plant = map (λ utility. utility.name) plant.utilities

-- the line of a unit: its name, then a cell for each period
unfoldable pub unit_line : Plant → List Start → ℕ → List ℕ
unit_line plant plan unit =
    left_in 32 (slice_index_or (unit_names plant) unit []) ++ (flat_map (cell plant plan unit) (range_with_len 0 plant.periods) ++ 10 ∷ [])

-- the Gantt chart: the lines of all units
abbrev pub chart : Plant → List Start → List ℕ
chart plant plan = flat_map (unit_line plant plan) (range_with_len 0 (length plant.units))

-- the stocks of all states at a time, in mass units
abbrev pub stocks_at : Plant → List Start → ℕ → List ℤ
stocks_at plant plan time = map (λ state. stock plant plan state time) (range_with_len 0 (length plant.states))

-- the loads of all utilities in a period
abbrev pub loads_in : Plant → List Start → ℕ → List ℤ
loads_in plant plan period = map (λ utility. pos (load plant plan utility period)) (range_with_len 0 (length plant.utilities))

-- the whole report
unfoldable pub report_text : Plant → List Start → List ℕ
report_text plant plan =
    codes "gantt\n" ++ (chart plant plan ++ (name_lines (codes "task ") (task_names plant) ++
    (codes "stock\n" ++ (name_lines (codes "state ") (state_names plant) ++ (figures_lines (stocks_at plant plan) (plant.periods + 1) ++
    (codes "load\n" ++ (name_lines (codes "utility ") (utility_names plant) ++ (figures_lines (loads_in plant plan) plant.periods ++
    (codes "profit " ++ (signed_decimal (profit plant plan) ++ 10 ∷ []))))))))))

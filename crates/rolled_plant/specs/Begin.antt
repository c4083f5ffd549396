-- What stands at a period before its own starts: the stocks, and the batches that held the units last.
use Rattle.std.specs.Prelude.{ℕ, ℤ, pos, negsuc, zero, suc, ◌-◌, ◌-ℤ◌, ◌==◌, ◌&&◌, not, int_le, Bool, if◌then◌else◌, Option, Some, None, find, List}
use Rattle.std.specs.List.{list_all}
use Rattle.stn_model.specs.declared.plant.Plant.{Plant}
use Rattle.stn_model.specs.declared.plant.Last.{Last}
use Rattle.stn_model.specs.declared.start.Start.{Start}
use Rattle.stn_model.specs.Plant.{state_at, unit_at, end_of}
use Rattle.stn_model.specs.Batches.{is_earlier}
use Rattle.stn_model.specs.Stock.{inflow, outflow}

-- all that has come into the state before a time, with what was there
abbrev pub inflow_before : Plant → List Start → ℕ → ℕ → ℕ
inflow_before plant plan state zero = (state_at plant state).initial
inflow_before plant plan state (suc time) = inflow plant plan state time

-- all that has gone out of the state before a time
abbrev pub outflow_before : Plant → List Start → ℕ → ℕ → ℕ
outflow_before plant plan state zero = 0
outflow_before plant plan state (suc time) = outflow plant plan state time

-- the stock of the state before a time, where it is not negative
unfoldable pub stock_before : Plant → List Start → ℕ → ℕ → ℕ
stock_before plant plan state time = inflow_before plant plan state time - outflow_before plant plan state time

-- the start comes last on its unit: no start of the plan on it is later
unfoldable pub is_last : List Start → Start → Bool
is_last plan a = list_all (λ b. not (is_earlier a b)) plan

-- the start is on the unit, and comes last on it
abbrev pub is_latest : List Start → ℕ → Start → Bool
is_latest plan unit a = a.unit == unit && is_last plan a

-- the start of the plan that comes last on the unit, if there is one
unfoldable pub latest : List Start → ℕ → Option Start
latest plan unit = find (is_latest plan unit) plan

-- the batch of this start, as one that held its unit last
abbrev pub batch_held : Plant → Start → Last
batch_held plant start = record { task = start.task; until = pos (end_of plant start) }

-- the batch that holds a unit last: that of the latest start on it, or the one that held it before all starts
abbrev pub last_after : Plant → Option Start → Option Last → Option Last
last_after plant None last = last
last_after plant (Some start) last = Some (batch_held plant start)

-- the batch that holds the unit last after the starts of a plan, if one does
unfoldable pub last_behind : Plant → List Start → ℕ → Option Last
last_behind plant plan unit = last_after plant (latest plan unit) (unit_at plant unit).last

-- the time counted from a period, and -336 for one that is earlier
abbrev pub seen_from : ℕ → ℤ → ℤ
seen_from period time = if int_le (negsuc 335) (time -ℤ pos period) then time -ℤ pos period else negsuc 335

-- the batch that held a unit last, with its time counted from a period
abbrev pub last_seen : ℕ → Last → Last
last_seen period last = record last { until = seen_from period last.until }

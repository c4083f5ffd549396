-- The rows that keep stocks: what each slot does to the stock of a state by a time, and how far that may go.
use Rattle.std.specs.Prelude.{ℕ, ℤ, pos, ◌+◌, ◌-ℤ◌, List, ◌++◌, length, map, slice_index}
use Rattle.stn_model.specs.declared.plant.Plant.{Plant}
use Rattle.stn_model.specs.Plant.{state_at}
use Rattle.stn_model.specs.Stock.{received, delivered, taken, given}
use Rattle.time_grid.specs.Slots.{slots}
use Rattle.time_grid.specs.PlanPoint.{start_in}
use Rattle.row_kit.specs.declared.row.Row.{Row}
use Rattle.row_kit.specs.Row.{entries_from}
use Rattle.row_kit.specs.Table.{row_table}

-- what a batch of one quantum in the slot has taken from the state by a time
unfoldable pub taken_in : Plant → ℕ → ℕ → ℕ × ℕ → ℕ
taken_in plant state time slot = taken plant state time (start_in plant slot 1)

-- what a batch of one quantum in the slot has given to the state by a time
unfoldable pub given_in : Plant → ℕ → ℕ → ℕ × ℕ → ℕ
given_in plant state time slot = given plant state time (start_in plant slot 1)

-- what a slot counts for each quantum in a low row: taken less given
unfoldable pub low_parts : Plant → ℕ → ℕ → ℕ × ℕ → ℤ × ℤ
low_parts plant state time slot = (pos 0, pos (taken_in plant state time slot) -ℤ pos (given_in plant state time slot))

-- what a slot counts for each quantum in a high row: given less taken
unfoldable pub high_parts : Plant → ℕ → ℕ → ℕ × ℕ → ℤ × ℤ
high_parts plant state time slot = (pos 0, pos (given_in plant state time slot) -ℤ pos (taken_in plant state time slot))

-- the stock of the state at a time without any batch: what was there and what came, less what went to customers
unfoldable pub supply : Plant → ℕ → ℕ → ℤ
supply plant state time = pos ((state_at plant state).initial + received plant state time) -ℤ pos (delivered plant state time)

-- the stock does not fall below 0: taken less given is at most the stock without any batch
unfoldable pub low_row : Plant → ℕ → ℕ → Row
low_row plant state time = record { entries = entries_from 0 (map (low_parts plant state time) (slots plant)); limit = supply plant state time }

-- the stock does not rise above its limit: given less taken is at most the limit less the stock without any batch
unfoldable pub high_row : Plant → ℕ → ℕ → Row
high_row plant state time = record {
  entries = entries_from 0 (map (high_parts plant state time) (slots plant));
  limit = pos (slice_index (state_at plant state).limits time) -ℤ supply plant state time;
}

-- the low rows: by state, then by time, from 0 to the horizon
unfoldable pub low_rows : Plant → List Row
low_rows plant = row_table (low_row plant) (λ state. plant.periods + 1) (length plant.states)

-- at how many times the state has a limit: at none, or from 0 to the horizon
unfoldable pub limit_count : Plant → ℕ → ℕ
limit_count plant state = length (state_at plant state).limits

-- the high rows: by state, then by the times at which the state has a limit
unfoldable pub high_rows : Plant → List Row
high_rows plant = row_table (high_row plant) (limit_count plant) (length plant.states)

-- the rows that keep stocks: first the low ones, then the high ones
unfoldable pub stock_rows : Plant → List Row
stock_rows plant = low_rows plant ++ high_rows plant

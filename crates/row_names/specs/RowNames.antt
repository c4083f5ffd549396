-- The rows of a plant by name: of which constraint each is.
use Rattle.std.specs.Prelude.{ℕ, ◌+◌, List, ◌++◌, filter, length, map, slice_index_or}
use Rattle.std.specs.List.{flat_map, range_with_len}
use Rattle.stn_model.specs.declared.plant.Plant.{Plant}
use Rattle.time_grid.specs.Slots.{slots}
use Rattle.row_kit.specs.declared.row.Row.{Row}
use Rattle.balance_rows.specs.StockRows.{low_row, high_row, limit_count}
use Rattle.utility_rows.specs.LoadRows.{load_row}
use Rattle.unit_rows.specs.Busy.{busy_row, is_on}
use Rattle.unit_rows.specs.Gaps.{gap_row, is_too_soon}
use Rattle.unit_rows.specs.Firsts.{first_row, is_early_on}
use Rattle.row_names.specs.declared.name.RowName.{RowName}
use Rattle.row_names.specs.declared.name.RowName.TheVariants.{Busy, Low, High, Load, Gap, Last}

-- the slot of this number
abbrev pub slot_at : Plant → ℕ → ℕ × ℕ
slot_at plant number = slice_index_or (slots plant) number (0, 0)

-- the row of a name
abbrev pub row_named : Plant → RowName → Row
row_named plant (Busy unit period) = busy_row plant unit period
row_named plant (Low state time) = low_row plant state time
row_named plant (High state time) = high_row plant state time
row_named plant (Load utility period) = load_row plant utility period
row_named plant (Gap unit first second) = gap_row plant (slot_at plant first) (slot_at plant second)
row_named plant (Last unit slot) = first_row plant (slot_at plant slot)

-- the names of the busy rows, by unit, then by period
unfoldable pub busy_names : Plant → List RowName
busy_names plant = flat_map (λ unit. map (Busy unit) (range_with_len 0 plant.periods)) (range_with_len 0 (length plant.units))

-- the names of the low rows, by state, then by time
unfoldable pub low_names : Plant → List RowName
low_names plant = flat_map (λ state. map (Low state) (range_with_len 0 (plant.periods + 1))) (range_with_len 0 (length plant.states))

-- the names of the high rows, by state, then by the times at which the state has a limit
unfoldable pub high_names : Plant → List RowName
high_names plant = flat_map (λ state. map (High state) (range_with_len 0 (limit_count plant state))) (range_with_len 0 (length plant.states))

-- the names of the load rows, by utility, then by period
unfoldable pub load_names : Plant → List RowName
load_names plant = flat_map (λ utility. map (Load utility) (range_with_len 0 plant.periods)) (range_with_len 0 (length plant.utilities))

-- the names of the gap rows of a unit and its first slot, by the number of the second
unfoldable pub gaps_after : Plant → ℕ → ℕ → List RowName
gaps_after plant unit first = map (Gap unit first) (filter (λ second. is_too_soon plant (slot_at plant first) (slot_at plant second)) (range_with_len 0 (length (slots plant))))

-- the names of the gap rows of a unit, by the number of the first slot
unfoldable pub gaps_on : Plant → ℕ → List RowName
gaps_on plant unit = flat_map (gaps_after plant unit) (filter (λ first. is_on plant unit (slot_at plant first)) (range_with_len 0 (length (slots plant))))

-- the names of the gap rows, by unit
unfoldable pub gap_names : Plant → List RowName
gap_names plant = flat_map (gaps_on plant) (range_with_len 0 (length plant.units))

-- the names of the first rows of a unit, by the number of the slot
unfoldable pub firsts_on : Plant → ℕ → List RowName
firsts_on plant unit = map (Last unit) (filter (λ slot. is_early_on plant unit (slot_at plant slot)) (range_with_len 0 (length (slots plant))))

-- the names of the first rows, by unit
unfoldable pub first_names : Plant → List RowName
first_names plant = flat_map (firsts_on plant) (range_with_len 0 (length plant.units))

-- the names of a plant's rows: those of the busy rows, of stocks, low and high, of loads, of the gap rows, and of the first rows
unfoldable pub row_names : Plant → List RowName
row_names plant = busy_names plant ++ (low_names plant ++ (high_names plant ++ (load_names plant ++ (gap_names plant ++ first_names plant))))

-- The gap rows: two starts that the cleaning keeps apart have another between them, or are not both there.
use Rattle.std.specs.Prelude.{ℕ, ◌==◌, ◌&&◌, ◌||◌, nat_lt, Bool, if◌then◌else◌, List, filter, length, map, ℤ, pos, negsuc}
use Rattle.std.specs.List.{flat_map, range_with_len}
use Rattle.row_kit.specs.declared.row.Row.{Row}
use Rattle.row_kit.specs.Row.{entries_from}
use Rattle.stn_model.specs.declared.plant.Plant.{Plant}
use Rattle.stn_model.specs.declared.plant.Run.{Run}
use Rattle.stn_model.specs.Plant.{gap_between, run_at}
use Rattle.stn_model.specs.Points.{meets_gap}
use Rattle.time_grid.specs.Slots.{slots, is_slot}
use Rattle.unit_rows.specs.Busy.{is_on}

-- the slot is one of these two
abbrev pub is_either : ℕ × ℕ → ℕ × ℕ → ℕ × ℕ → Bool
is_either a b slot = is_slot a.0 a.1 slot || is_slot b.0 b.1 slot

-- the slot is one of the unit of a, in a period strictly between those of a and b
abbrev pub lies_between : Plant → ℕ × ℕ → ℕ × ℕ → ℕ × ℕ → Bool
lies_between plant a b slot = is_on plant (run_at plant a.0).unit slot && nat_lt a.1 slot.1 && nat_lt slot.1 b.1

-- what a slot counts in a gap row, fixed and for each quantum: 1 where it is a or b, -1 where it lies between
abbrev pub gap_part : Plant → ℕ × ℕ → ℕ × ℕ → ℕ × ℕ → ℤ × ℤ
gap_part plant a b slot = (if is_either a b slot then pos 1 else (if lies_between plant a b slot then negsuc 0 else pos 0), pos 0)

-- the gap row of two slots: with starts in both there is one between them
unfoldable pub gap_row : Plant → ℕ × ℕ → ℕ × ℕ → Row
gap_row plant a b = record { entries = entries_from 0 (map (gap_part plant a b) (slots plant)); limit = pos 1 }

-- a start in b would come after one in a, on one unit, but too soon for the cleaning
abbrev pub is_too_soon : Plant → ℕ × ℕ → ℕ × ℕ → Bool
is_too_soon plant a b = meets_gap plant (run_at plant a.0) a.1 (run_at plant b.0) b.1

-- how long the unit is cleaned between batches of two runs; 0 where they are not on one unit
abbrev pub gap_after : Plant → Run → Run → ℕ
gap_after plant a b = if a.unit == b.unit then gap_between plant a.unit a.task b.task else 0

-- the gap rows of a with these slots
abbrev pub rows_after : Plant → ℕ × ℕ → List (ℕ × ℕ) → List Row
rows_after plant a grid = map (gap_row plant a) (filter (is_too_soon plant a) grid)

-- the gap rows of the unit whose first slot is one of these
abbrev pub rows_from : Plant → ℕ → List (ℕ × ℕ) → List Row
rows_from plant unit grid = flat_map (λ a. rows_after plant a (slots plant)) (filter (is_on plant unit) grid)

-- the gap rows of a unit, by its slots a, then by the slots b
unfoldable pub unit_gap_rows : Plant → ℕ → List Row
unit_gap_rows plant unit = rows_from plant unit (slots plant)

-- the gap rows of a plant, by unit, then by slot a, then by slot b
unfoldable pub gap_rows : Plant → List Row
gap_rows plant = flat_map (unit_gap_rows plant) (range_with_len 0 (length plant.units))

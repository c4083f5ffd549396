-- The first rows: a start in a slot before which its unit is not ready, after the batch that held it last, has an earlier one on its unit.
use Rattle.std.specs.Prelude.{ℕ, ◌&&◌, nat_lt, Bool, if◌then◌else◌, List, filter, length, map, ℤ, pos, negsuc}
use Rattle.std.specs.List.{flat_map, range_with_len}
use Rattle.row_kit.specs.declared.row.Row.{Row}
use Rattle.row_kit.specs.Row.{entries_from}
use Rattle.stn_model.specs.declared.plant.Plant.{Plant}
use Rattle.stn_model.specs.declared.plant.Run.{Run}
use Rattle.stn_model.specs.Plant.{ready_at, run_at}
use Rattle.time_grid.specs.Slots.{slots, is_slot}
use Rattle.unit_rows.specs.Busy.{is_on}

-- the slot is one of the unit of b, in a lesser period
abbrev pub lies_before : Plant → ℕ × ℕ → ℕ × ℕ → Bool
lies_before plant b slot = is_on plant (run_at plant b.0).unit slot && nat_lt slot.1 b.1

-- what a slot counts in a first row, fixed and for each quantum: 1 where it is b, -1 where it is on the unit of b in a lesser period
abbrev pub first_part : Plant → ℕ × ℕ → ℕ × ℕ → ℤ × ℤ
first_part plant b slot = (if is_slot b.0 b.1 slot then pos 1 else (if lies_before plant b slot then negsuc 0 else pos 0), pos 0)

-- the first row of a slot: with a start in it there is an earlier one on its unit
unfoldable pub first_row : Plant → ℕ × ℕ → Row
first_row plant b = record { entries = entries_from 0 (map (first_part plant b) (slots plant)); limit = pos 0 }

-- the first time at which a first batch of the run may begin
abbrev pub run_ready : Plant → Run → ℕ
run_ready plant run = ready_at plant run.unit run.task

-- a first batch in the slot would begin before its unit is ready
abbrev pub is_too_early : Plant → ℕ × ℕ → Bool
is_too_early plant slot = nat_lt slot.1 (run_ready plant (run_at plant slot.0))

-- the slot is one of the unit, and a first batch in it would begin before the unit is ready
abbrev pub is_early_on : Plant → ℕ → ℕ × ℕ → Bool
is_early_on plant unit slot = is_on plant unit slot && is_too_early plant slot

-- the first rows of those of these slots that are on the unit and too early
abbrev pub firsts_among : Plant → ℕ → List (ℕ × ℕ) → List Row
firsts_among plant unit grid = map (first_row plant) (filter (is_early_on plant unit) grid)

-- the first rows of a unit, in the order of its slots
unfoldable pub unit_first_rows : Plant → ℕ → List Row
unit_first_rows plant unit = firsts_among plant unit (slots plant)

-- the first rows of a plant, by unit, then by slot
unfoldable pub first_rows : Plant → List Row
first_rows plant = flat_map (unit_first_rows plant) (range_with_len 0 (length plant.units))

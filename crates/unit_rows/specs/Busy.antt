-- The busy rows: a unit carries out one batch at a time.
use Rattle.std.specs.Prelude.{ℕ, ◌+◌, ◌==◌, ◌&&◌, nat_le, nat_lt, Bool, if◌then◌else◌, List, length, map, ℤ, pos}
use Rattle.std.specs.List.{flat_map, range_with_len}
use Rattle.row_kit.specs.declared.row.Row.{Row}
use Rattle.row_kit.specs.Row.{entries_from}
use Rattle.stn_model.specs.declared.plant.Plant.{Plant}
use Rattle.stn_model.specs.Plant.{task_at, duration_of, run_at}
use Rattle.time_grid.specs.Slots.{slots}

-- the time at which a start in the slot ends
abbrev pub slot_end : Plant → ℕ × ℕ → ℕ
slot_end plant slot = slot.1 + duration_of (task_at plant (run_at plant slot.0).task)

-- the slot is one of the unit
abbrev pub is_on : Plant → ℕ → ℕ × ℕ → Bool
is_on plant unit slot = (run_at plant slot.0).unit == unit

-- a start in the slot runs on the unit in the period
abbrev pub runs_in : Plant → ℕ → ℕ → ℕ × ℕ → Bool
runs_in plant unit period slot = is_on plant unit slot && nat_le slot.1 period && nat_lt period (slot_end plant slot)

-- what a slot counts in a busy row, fixed and for each quantum: 1 where a start in it runs on the unit in the period
abbrev pub busy_part : Plant → ℕ → ℕ → ℕ × ℕ → ℤ × ℤ
busy_part plant unit period slot = (if runs_in plant unit period slot then pos 1 else pos 0, pos 0)

-- the busy row of a unit and a period: at most one start runs
unfoldable pub busy_row : Plant → ℕ → ℕ → Row
busy_row plant unit period = record { entries = entries_from 0 (map (busy_part plant unit period) (slots plant)); limit = pos 1 }

-- the busy rows of a unit in the first periods, by period
unfoldable pub unit_busy_rows : Plant → ℕ → ℕ → List Row
unit_busy_rows plant unit periods = map (busy_row plant unit) (range_with_len 0 periods)

-- the busy rows of a plant, by unit, then by period
unfoldable pub busy_rows : Plant → List Row
busy_rows plant = flat_map (λ unit. unit_busy_rows plant unit plant.periods) (range_with_len 0 (length plant.units))

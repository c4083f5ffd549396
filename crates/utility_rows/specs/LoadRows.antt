-- The rows that keep loads: what each slot draws of a utility in a period, and how much there is of it.
use Rattle.std.specs.Prelude.{ℕ, ℤ, pos, ◌-◌, ◌==◌, ◌&&◌, nat_le, nat_lt, Bool, if◌then◌else◌, List, length, map, sum_by, slice_index}
use Rattle.stn_model.specs.declared.plant.Plant.{Plant}
use Rattle.stn_model.specs.declared.plant.Draw.{Draw}
use Rattle.stn_model.specs.Plant.{utility_at, task_at, end_of, run_at}
use Rattle.stn_model.specs.Load.{drawn}
use Rattle.time_grid.specs.Slots.{slots}
use Rattle.time_grid.specs.PlanPoint.{start_in}
use Rattle.row_kit.specs.declared.row.Row.{Row}
use Rattle.row_kit.specs.Row.{entries_from}
use Rattle.row_kit.specs.Table.{row_table}

-- a batch in the slot runs in the period
abbrev pub is_running : Plant → ℕ → ℕ × ℕ → Bool
is_running plant period slot = nat_le slot.1 period && nat_lt period (end_of plant (start_in plant slot 0))

-- what a batch in the slot draws of the utility in a period, whatever its size
unfoldable pub fixed_drawn : Plant → ℕ → ℕ → ℕ × ℕ → ℕ
fixed_drawn plant utility period slot = drawn plant utility period (start_in plant slot 0)

-- what a draw takes of the utility in the batch's period k for each quantum
abbrev pub each_in : ℕ → ℕ → Draw → ℕ
each_in utility k draw = if draw.utility == utility then slice_index draw.each k else 0

-- what a batch in the slot draws of the utility in a period for each quantum: something only while it runs
unfoldable pub each_drawn : Plant → ℕ → ℕ → ℕ × ℕ → ℕ
each_drawn plant utility period slot =
    if is_running plant period slot
    then sum_by (each_in utility (period - slot.1)) (task_at plant (run_at plant slot.0).task).draws
    else 0

-- what a slot counts in a load row: what is drawn whatever the size, and for each quantum
unfoldable pub load_parts : Plant → ℕ → ℕ → ℕ × ℕ → ℤ × ℤ
load_parts plant utility period slot = (pos (fixed_drawn plant utility period slot), pos (each_drawn plant utility period slot))

-- the load is at most what is there of the utility in the period
unfoldable pub load_row : Plant → ℕ → ℕ → Row
load_row plant utility period = record {
  entries = entries_from 0 (map (load_parts plant utility period) (slots plant));
  limit = pos (slice_index (utility_at plant utility).limits period);
}

-- the rows that keep loads: by utility, then by period
unfoldable pub load_rows : Plant → List Row
load_rows plant = row_table (load_row plant) (λ utility. plant.periods) (length plant.utilities)

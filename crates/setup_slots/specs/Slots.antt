-- The slots of a unit's setup: which task comes first, and when the unit goes over from one task to another.
use Rattle.std.specs.Prelude.{ℕ, ◌+◌, ◌==◌, ◌&&◌, not, nat_le, Bool, List, ◌++◌, filter, length, map}
use Rattle.std.specs.List.{flat_map, list_any, range_with_len}
use Rattle.stn_model.specs.declared.plant.Plant.{Plant}
use Rattle.stn_model.specs.Plant.{duration_of, gap_between, run_at, task_at}
use Rattle.time_grid.specs.Slots.{slots}
use Rattle.setup_slots.specs.declared.task_slot.TaskSlot.{TaskSlot}
use Rattle.setup_slots.specs.declared.setup.SetupSlot.{SetupSlot}
use Rattle.setup_slots.specs.declared.setup.SetupSlot.TheVariants.{First, Change}

-- a slot of the plant: its unit, its task, its period, and when a batch that starts there ends
abbrev pub task_slot : Plant → ℕ × ℕ → TaskSlot
task_slot plant slot = record {
  unit = (run_at plant slot.0).unit;
  task = (run_at plant slot.0).task;
  period = slot.1;
  end = slot.1 + duration_of (task_at plant (run_at plant slot.0).task);
}

-- the slots of the plant, in their order
abbrev pub task_slots : Plant → List TaskSlot
task_slots plant = map (task_slot plant) (slots plant)

-- the slot is one of the task on the unit
abbrev pub is_of : ℕ → ℕ → TaskSlot → Bool
is_of unit task slot = slot.unit == unit && slot.task == task

-- the slot is one of the task on the unit, in the period
abbrev pub starts_in : ℕ → ℕ → ℕ → TaskSlot → Bool
starts_in unit task period slot = is_of unit task slot && slot.period == period

-- the slot is one of the task on the unit, and by the period its batch has ended and a number of periods have passed
abbrev pub is_over : ℕ → ℕ → ℕ → ℕ → TaskSlot → Bool
is_over unit task gap period slot = is_of unit task slot && nat_le (slot.end + gap) period

-- the task has slots on the unit
abbrev pub has_slots : Plant → ℕ → ℕ → Bool
has_slots plant unit task = list_any (is_of unit task) (task_slots plant)

-- the tasks that have slots on the unit, in the plant's order
unfoldable pub setup_tasks : Plant → ℕ → List ℕ
setup_tasks plant unit = filter (has_slots plant unit) (range_with_len 0 (length plant.tasks))

-- The unit can go over from one task to another in the period: the tasks differ, the second has a slot there, and the earliest batch
-- of the first and the cleaning are over by then.
abbrev pub is_change : Plant → ℕ → ℕ → ℕ → ℕ → Bool
is_change plant unit from to period =
    not (from == to) && list_any (starts_in unit to period) (task_slots plant) && list_any (is_over unit from (gap_between plant unit from to) period) (task_slots plant)

-- the changes from one task to another, by period
unfoldable pub changes_between : Plant → ℕ → ℕ → ℕ → List SetupSlot
changes_between plant unit from to = map (Change from to) (filter (is_change plant unit from to) (range_with_len 0 plant.periods))

-- the changes between some tasks: by the task before, then by the task after, then by period
unfoldable pub changes_among : Plant → ℕ → List ℕ → List SetupSlot
changes_among plant unit tasks = flat_map (λ from. flat_map (changes_between plant unit from) tasks) tasks

-- the slots of a unit's setup: which task comes first, by task, and then the changes
unfoldable pub setup_slots : Plant → ℕ → List SetupSlot
setup_slots plant unit = map First (setup_tasks plant unit) ++ changes_among plant unit (setup_tasks plant unit)

-- The rows of a unit's setup, over the slots of the plant and those of the setup.
use Rattle.std.specs.Prelude.{ℕ, ◌-◌, ◌==◌, ◌&&◌, nat_le, nat_lt, Bool, false, if◌then◌else◌, List, [], ◌∷◌, ◌++◌, filter, length, map, replicate, ℤ, pos, neg_ℤ, ◌-ℤ◌}
use Rattle.std.specs.List.{flat_map, list_any, range_with_len}
use Rattle.stn_model.specs.declared.plant.Plant.{Plant}
use Rattle.stn_model.specs.Plant.{cost_between, first_cost}
use Rattle.row_kit.specs.declared.row.Entry.{Entry}
use Rattle.row_kit.specs.declared.row.Row.{Row}
use Rattle.row_kit.specs.Row.{entries_from}
use Rattle.setup_slots.specs.declared.task_slot.TaskSlot.{TaskSlot}
use Rattle.setup_slots.specs.declared.setup.SetupSlot.{SetupSlot}
use Rattle.setup_slots.specs.declared.setup.SetupSlot.TheVariants.{First, Change}
use Rattle.setup_slots.specs.declared.setup.SetupRow.{SetupRow}
use Rattle.setup_slots.specs.declared.setup.SetupRow.TheVariants.{Single, Held, Begun}
use Rattle.setup_slots.specs.Slots.{is_of, setup_slots, setup_tasks, starts_in, task_slots}

-- 1 where something holds, and 0 else
abbrev pub one_if : Bool → ℤ
one_if test = if test then pos 1 else pos 0

-- a batch that starts in the slot is one of the task on the unit, and runs in the period
abbrev pub runs_in : ℕ → ℕ → ℕ → TaskSlot → Bool
runs_in unit task period slot = is_of unit task slot && nat_le slot.period period && nat_lt period slot.end

-- What a slot of the plant counts in a row of a unit's setup: 1 where its batch is the row's task and runs in the row's period; less 1
-- where it starts the row's task in the row's period.
abbrev pub slot_part : ℕ → SetupRow → TaskSlot → ℤ
slot_part unit Single slot = pos 0
slot_part unit (Held task period) slot = one_if (runs_in unit task period slot)
slot_part unit (Begun task period) slot = neg_ℤ (one_if (starts_in unit task period slot))

-- a slot of the setup goes over to the task in the period
abbrev pub is_change_to : ℕ → ℕ → SetupSlot → Bool
is_change_to task period (First first) = false
is_change_to task period (Change from to at) = to == task && at == period

-- What a slot of the setup counts in a row: each first task 1 in the single one; less 1 where by the period it sets the unit up for the
-- task, and 1 where it goes over from it; 1 where it goes over to the task in the period.
abbrev pub setup_part : SetupRow → SetupSlot → ℤ
setup_part Single (First task) = pos 1
setup_part Single (Change from to period) = pos 0
setup_part (Held task period) (First first) = neg_ℤ (one_if (first == task))
setup_part (Held task period) (Change from to at) = if nat_le at period then (one_if (from == task) -ℤ one_if (to == task)) else pos 0
setup_part (Begun task period) slot = one_if (is_change_to task period slot)

-- what a row counts at most
abbrev pub most_of : SetupRow → ℤ
most_of Single = pos 1
most_of (Held task period) = pos 0
most_of (Begun task period) = pos 0

-- the rows of a task, by period: what runs of it is set up
unfoldable pub held_rows : ℕ → ℕ → List SetupRow
held_rows periods task = map (Held task) (range_with_len 0 periods)

-- the rows of a task for the periods in which one of the setup's slots goes over to it
unfoldable pub begun_rows : List SetupSlot → ℕ → ℕ → List SetupRow
begun_rows setups periods task = map (Begun task) (filter (λ period. list_any (is_change_to task period) setups) (range_with_len 0 periods))

-- The rows over some tasks and slots of a setup: at most one task comes first; by task, then by period, what runs of the task is set up;
-- by task, then by period, the unit goes over to the task only where that starts.
unfoldable pub rows_among : List ℕ → List SetupSlot → ℕ → List SetupRow
rows_among tasks setups periods = Single ∷ [] ++ (flat_map (held_rows periods) tasks ++ flat_map (begun_rows setups periods) tasks)

-- the rows of a unit's setup
abbrev pub setup_rows : Plant → ℕ → List SetupRow
setup_rows plant unit = rows_among (setup_tasks plant unit) (setup_slots plant unit) plant.periods

-- both parts of what a slot counts that counts this much at any value of 1 or more
abbrev pub fixed_part : ℤ → ℤ × ℤ
fixed_part count = (count, pos 0)

-- what slots count in a row of a unit's setup: those of the plant, nothing up to the first slot of the setup, and those of the setup
unfoldable pub row_parts : List TaskSlot → List SetupSlot → ℕ → ℕ → SetupRow → List (ℤ × ℤ)
row_parts slots setups unit first row =
    map (λ slot. fixed_part (slot_part unit row slot)) slots
    ++ (replicate (first - length slots) (fixed_part (pos 0)) ++ map (λ slot. fixed_part (setup_part row slot)) setups)

-- a row of a unit's setup, over these slots of the plant and of the setup, which are numbered from one on
unfoldable pub row_over : List TaskSlot → List SetupSlot → ℕ → ℕ → SetupRow → Row
row_over slots setups unit first row = record { entries = entries_from 0 (row_parts slots setups unit first row); limit = most_of row }

-- a row of a unit's setup, whose slots are numbered from one on
abbrev pub setup_row : Plant → ℕ → ℕ → SetupRow → Row
setup_row plant unit first row = row_over (task_slots plant) (setup_slots plant unit) unit first row

-- What a slot of the setup earns: a first task what the changeover to it costs from the batch that held the unit last, and a change the
-- greatest cost that is listed for it, both negated.
abbrev pub setup_profit : Plant → ℕ → SetupSlot → ℤ
setup_profit plant unit (First task) = neg_ℤ (pos (first_cost plant unit task))
setup_profit plant unit (Change from to period) = neg_ℤ (pos (cost_between plant unit from to))

-- what the slots of a unit's setup earn, numbered from one on
unfoldable pub profit_entries : Plant → ℕ → ℕ → List Entry
profit_entries plant unit first =
    entries_from 0 (replicate first (fixed_part (pos 0)) ++ map (λ slot. fixed_part (setup_profit plant unit slot)) (setup_slots plant unit))

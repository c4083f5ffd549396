-- Where batches may start: the slots of a plant.
use Rattle.std.specs.Prelude.{◌≡◌, ℕ, ◌+◌, ◌-◌, ◌<◌, ◌==◌, ◌&&◌, ◌⊎◌, Bool, true, List, filter, map, length}
use Rattle.std.specs.List.{flat_map, range_with_len}
use Rattle.stn_model.specs.declared.plant.Plant.{Plant}
use Rattle.stn_model.specs.Plant.{run_at}
use Rattle.stn_model.specs.Points.{has_slot}

-- the slots of a run in the first periods: its number with each period in which some start of it fits, by period
unfoldable pub slots_before : Plant → ℕ → ℕ → List (ℕ × ℕ)
slots_before plant run periods = map (λ period. (run, period)) (filter (has_slot plant (run_at plant run)) (range_with_len 0 periods))

-- the slots of a run, by period
abbrev pub run_slots : Plant → ℕ → List (ℕ × ℕ)
run_slots plant run = slots_before plant run plant.periods

-- the slots of the plant, each a run and a period in which some start of it fits: by run, then by period
unfoldable pub slots : Plant → List (ℕ × ℕ)
slots plant = flat_map (run_slots plant) (range_with_len 0 (length plant.runs))

-- the slot is of this run and period
abbrev pub is_slot : ℕ → ℕ → ℕ × ℕ → Bool
is_slot run period slot = slot.0 == run && slot.1 == period

-- the grid is the one of this plant
abbrev pub IsGrid : Plant → List (ℕ × ℕ) → Type 0
IsGrid plant grid = grid ≡ slots plant

-- how many choices there are for a slot: no start, or one of each size
abbrev pub slot_choices : Plant → ℕ × ℕ → ℕ
slot_choices plant slot = (run_at plant slot.0).max - (run_at plant slot.0).min + 2

-- a slot of the plant: a run, and a period in which some start of it fits
pub record IsSlotOf (plant : Plant) (slot : ℕ × ℕ) : Type 0 where
  pub run : slot.0 < length plant.runs
  pub period : slot.1 < plant.periods
  pub has : has_slot plant (run_at plant slot.0) slot.1 ≡ true

-- the first slot is numbered before the second: by run, then by period
abbrev pub Earlier : ℕ × ℕ → ℕ × ℕ → Type 0
Earlier a b = (a.0 < b.0) ⊎ ((a.0 ≡ b.0) × (a.1 < b.1))

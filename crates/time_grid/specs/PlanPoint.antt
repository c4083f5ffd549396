-- Plans as points: for each slot the quanta that start in it.
use Rattle.std.specs.Prelude.{◌≡◌, ℕ, ◌<◌, ◌≤◌, ◌==◌, ◌&&◌, ◌⊎◌, Bool, true, false, if◌then◌else◌, List, [], ◌∷◌, map, length, sum_by, All, AllPairs, Contains, ◌↔◌, IsPermutation, slice_index, slice_index_or, slice_set}
use Rattle.std.specs.List.{AllAdjacentBelow, AllZip}
use Rattle.stn_model.specs.declared.plant.Plant.{Plant}
use Rattle.stn_model.specs.declared.start.Start.{Start}
use Rattle.stn_model.specs.Plant.{is_of, run_at}
use Rattle.stn_model.specs.Fits.{Fits}
use Rattle.time_grid.specs.Slots.{slots, Earlier}

-- two starts share a slot: they are of one run, in one period
pub record ShareSlot (a b : Start) : Type 0 where
  pub period : a.period ≡ b.period
  pub unit : a.unit ≡ b.unit
  pub task : a.task ≡ b.task

-- the start is in the slot: in its period, and of its run's task and unit
abbrev pub is_in : Plant → ℕ × ℕ → Start → Bool
is_in plant slot start = start.period == slot.1 && is_of start.task start.unit (run_at plant slot.0)

-- the quanta of a start, where it is in the slot
abbrev pub quanta_of : Plant → ℕ × ℕ → Start → ℕ
quanta_of plant slot start = if is_in plant slot start then start.quanta else 0

-- how many quanta of the plan start in the slot
unfoldable pub quanta_in : Plant → List Start → ℕ × ℕ → ℕ
quanta_in plant plan slot = sum_by (quanta_of plant slot) plan

-- a plan has a point where all its starts fit and no two of them share a slot
pub record HasPoint (plant : Plant) (plan : List Start) : Type 0 where
  pub fits : All (Fits plant) plan
  pub apart : AllPairs (λ a b. ¬ ShareSlot a b) plan

-- the point of a plan: for each slot the quanta that start in it, 0 where none do
unfoldable pub plan_point : Plant → List Start → List ℕ
plan_point plant plan = map (quanta_in plant plan) (slots plant)

-- a start of this size in the slot
abbrev pub start_in : Plant → ℕ × ℕ → ℕ → Start
start_in plant slot quanta = record { period = slot.1; unit = (run_at plant slot.0).unit; task = (run_at plant slot.0).task; quanta = quanta }

-- some start of the run fits in the period
pub record SomeStartFits (plant : Plant) (slot : ℕ × ℕ) : Type 0 where
  pub run : slot.0 < length plant.runs
  pub quanta : ℕ
  pub fits : Fits plant (start_in plant slot quanta)

-- the grid has exactly the pairs of a run and a period in which some start fits, by run, then by period
pub record HasAllSlots (plant : Plant) (grid : List (ℕ × ℕ)) : Type 0 where
  pub exact : (slot : ℕ × ℕ) → Contains grid slot ↔ SomeStartFits plant slot
  pub ordered : AllPairs Earlier grid

-- the starts of a point: one in each slot whose value is not 0
abbrev pub point_starts : Plant → List (ℕ × ℕ) → List ℕ → List Start
point_starts plant [] values = []
point_starts plant (slot ∷ grid) [] = []
point_starts plant (slot ∷ grid) (value ∷ values) =
    if value == 0 then point_starts plant grid values else start_in plant slot value ∷ point_starts plant grid values

-- the first start stands no later than the second: by period, then by unit, then by task
abbrev pub NoLater : Start → Start → Type 0
NoLater a b = (a.period < b.period) ⊎ ((a.period ≡ b.period) × ((a.unit < b.unit) ⊎ ((a.unit ≡ b.unit) × (a.task ≤ b.task))))

-- the plan of a point: one start for each value that is not 0, by period, then by unit, then by task
pub record IsPlanOf (plant : Plant) (point : List ℕ) (plan : List Start) : Type 0 where
  pub starts : IsPermutation (point_starts plant (slots plant) point) plan
  pub ordered : AllAdjacentBelow NoLater plan (length plan)

-- the value is one that the slot can take: 0, or a size of a batch of its run
abbrev pub IsChoice : Plant → ℕ × ℕ → ℕ → Type 0
IsChoice plant slot value = (value ≡ 0) ⊎ (((run_at plant slot.0).min ≤ value) × (value ≤ (run_at plant slot.0).max))

-- the place is that of the start's slot
pub record IsPlaceOf (plant : Plant) (start : Start) (place : ℕ) : Type 0 where
  pub within : place < length (slots plant)
  pub holds : is_in plant (slice_index_or (slots plant) place (0, 0)) start ≡ true

-- a start goes into its slot, or changes nothing: where it does not fit, and where its slot is taken
abbrev pub PutsStart : Plant → Start → List ℕ → List ℕ → Bool → Type 0
PutsStart plant start old new true =
    Fits plant start × ((place : ℕ) × (IsPlaceOf plant start place × (slice_index old place ≡ 0) × (new ≡ slice_set old place start.quanta)))
PutsStart plant start old new false =
    (new ≡ old) × (Fits plant start → (place : ℕ) × (IsPlaceOf plant start place × (0 < slice_index old place)))

-- a point of the plant: one choice for each slot
abbrev pub IsPoint : Plant → List ℕ → Type 0
IsPoint plant point = AllZip (IsChoice plant) (slots plant) point
